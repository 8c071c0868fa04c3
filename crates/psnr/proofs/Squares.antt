-- How large the squared error can be, and that planes which no test refuses can be walked. Assumes nothing.
use Rattle.std.proofs.Common.{◌≡◌, ℕ, ◌+◌, ◌*◌, ◌^◌, ◌<◌, ◌≤◌, true, le_trans, lt_of_le_of_lt, mul-le-mul_right, mul-le-mul, arith, lit<}
use Rattle.plane.specs.Limits.{side_limit, most_depth}
use Rattle.plane.specs.Plane.{Size, Plane, Planes, max_of, sample_limit, sample_at}
use Rattle.plane.specs.Inner.Lawful.{Bounded, Lawful, AcceptedPair}
use Rattle.plane.proofs.Depth.{max_grows}
use Rattle.plane.proofs.Sums.{sum_none, sum_more, sum_bound}
use Rattle.plane.proofs.Limits.{deepest}
use Rattle.psnr.specs.Limits.{total_limit}
use Rattle.psnr.specs.Squared.{apart, square_of, row_error, error_to}
use Rattle.psnr.specs.Inner.Walk.{Walkable}

-- ---- a sum counted up
module _ (p : Planes) where
  pub error_none : error_to p 0 ≡ 0
  unfolding error_to
  error_none = sum_none _

  pub error_more : (y : ℕ) → error_to p (y + 1) ≡ error_to p y + row_error p p.size.width y
  unfolding error_to
  error_more y = sum_more _ y

-- ---- how large it can be, where no sample is above m
pub square_le : (m a b : ℕ) → a ≤ m → b ≤ m → square_of a b ≤ m * m
unfolding square_of
square_le m a b la lb = let l : apart a b ≤ m = omega arith in mul-le-mul l l

-- none of the first n samples of row y is above m
abbrev pub SmallRow : ℕ → ℕ → Plane → ℕ → Type 0
SmallRow m n p y = (x : ℕ) → x < n → sample_at p y x ≤ m

row_le : (m : ℕ) (p : Planes) (n y : ℕ) → SmallRow m n p.a y → SmallRow m n p.b y → row_error p n y ≤ n * (m * m)
unfolding row_error
row_le m p n y sa sb = sum_bound _ (m * m) n (λ (x : ℕ) (l : x < n). square_le m _ _ (sa x l) (sb x l))

pub error_le : (m : ℕ) (p : Planes) (n : ℕ) → ((y : ℕ) → y < n → SmallRow m p.size.width p.a y)
    → ((y : ℕ) → y < n → SmallRow m p.size.width p.b y) → error_to p n ≤ n * (p.size.width * (m * m))
unfolding error_to
error_le m p n sa sb = sum_bound _ (p.size.width * (m * m)) n (λ (y : ℕ) (l : y < n). row_le m p p.size.width y (sa y l) (sb y l))

-- ---- and at the limits
-- the largest square
abbrev top : ℕ
top = sample_limit * sample_limit

-- the largest planes of the largest depth stay below the largest total: said of the limits, whatever they are
pub limits_fit : side_limit * (side_limit * top) < total_limit
unfolding side_limit most_depth max_of total_limit
limits_fit = lit< tt

-- and the largest total fits a word
pub total_fits : total_limit < 2 ^ 64
unfolding total_limit
total_fits = lit< tt

-- so that the double is exact
pub total_below : (p : Planes) (n : ℕ) → p.size.width ≤ side_limit → n ≤ side_limit
    → ((y : ℕ) → y < n → SmallRow sample_limit p.size.width p.a y) → ((y : ℕ) → y < n → SmallRow sample_limit p.size.width p.b y)
    → error_to p n < total_limit
total_below p n w l sa sb =
    lt_of_le_of_lt (error_le sample_limit p n sa sb) (lt_of_le_of_lt (mul-le-mul l (mul-le-mul_right top w)) limits_fit)

pub error_below : {p : Planes} {y : ℕ} → Walkable p → y ≤ p.size.height → error_to p y < total_limit
error_below {p} {y} w l =
    total_below p y w.width_most (le_trans l w.height_most)
    (λ k lk x lx. w.bounded.first.small k x (omega arith) lx)
    (λ k lk x lx. w.bounded.second.small k x (omega arith) lx)

-- ---- what the walk may count on
-- no sample of a depth is above the largest of any
below_limit : {size : Size} {p : Plane} → size.depth ≤ most_depth true → Lawful size p → Bounded sample_limit size.width size.height p
below_limit d l = record { long = l.bounded.long; small = λ r c lr lc. le_trans (l.bounded.small r c lr lc) (max_grows d) }

pub walkable : {p : Planes} {least : ℕ} → AcceptedPair p least → Walkable p
walkable {p} c =
    let d : p.size.depth ≤ most_depth true = le_trans c.sized.depth_most (deepest p.size.wide) in
    record {
      width_most = c.sized.width_most;
      height_most = c.sized.height_most;
      bounded = record { first = below_limit d c.each.0; second = below_limit d c.each.1.0 };
    }

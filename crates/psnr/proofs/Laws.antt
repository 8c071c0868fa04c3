-- What a user may count on, stated about the definitions: equal planes differ by 0, only visible samples count, it does not matter which
-- plane comes first, and the record that a call answers is never bad. Assumes nothing.
use Rattle.std.proofs.Common.{◌≡◌, ℕ, ◌+◌, ◌-◌, ◌*◌, ◌<◌, ◌≤◌, Bool, true, false, refl, le_trans, le_refl, le_of_lt, mul_assoc, mul_comm, mul-pos, arith, lit≤, eq-eqb, le-leb}
use borrow.Author.Tests.{lt-leb}
use Rattle.std.specs.Prelude.{Ok, Err}
use Rattle.refusal.specs.declared.Refusal.TheVariants as no
use Rattle.plane.specs.Limits.{side_limit, least_depth, most_depth}
use Rattle.plane.specs.Plane.{Size, Plane, Planes, planes_of, max_of, sample_at}
use Rattle.plane.specs.Sums.{sum_to}
use Rattle.plane.specs.Tests.{pair_refusal}
use Rattle.plane.specs.Inner.Lawful.{AcceptedPair, Alike, Equivalent}
use Rattle.plane.proofs.Sums.{sum_ext, sum_zero}
use Rattle.plane.proofs.Exchange.{refusal_exchanged, refusal_equivalent}
use Rattle.plane.proofs.Limits.{deepest, area_le}
use Rattle.number.specs.Limits.{exact_limit}
use Rattle.number.specs.Steps.{double}
use Rattle.psnr.specs.Limits.{count_limit, most_plane, total_limit}
use Rattle.psnr.specs.Squared.{square_of, row_error, error_to, squared_error_score, record_of, squared_error_of}
use Rattle.psnr.specs.Record.{count_suits, max_suits, error_suits, plane_suits, record_suits}
use Rattle.psnr.proofs.Squares.{error_le, error_below, walkable}
use Rattle.psnr.proofs.Records.{some_true}
use Rattle.psnr.proofs.Accept.{number_refuses, refusal_same}
use Rattle.psnr.proofs.Whole.{whole_back}

-- ---- one sample
square_same : (a : ℕ) → square_of a a ≡ 0
unfolding square_of
square_same a = let z : a - a + (a - a) ≡ 0 = omega arith in rw z

pub square_swap : (a b : ℕ) → square_of a b ≡ square_of b a
unfolding square_of
square_swap a b = let z : a - b + (b - a) ≡ b - a + (a - b) = omega arith in rw z

-- ---- the planes
module _ (size : Size) where
  rows : (f g : ℕ → ℕ → ℕ) → ((y x : ℕ) → y < size.height → x < size.width → f y x ≡ g y x)
      → sum_to (λ (y : ℕ). sum_to (f y) size.width) size.height ≡ sum_to (λ (y : ℕ). sum_to (g y) size.width) size.height
  rows f g h = sum_ext _ _ size.height (λ y ly. sum_ext _ _ size.width (λ x lx. h y x ly lx))

  -- equal planes give 0
  pub equal_planes : (a b : Plane) → Alike size a b → squared_error_score (planes_of size a b) ≡ 0
  unfolding error_to row_error
  equal_planes a b p =
      sum_zero _ size.height (λ y ly. sum_zero _ size.width (λ x lx. rw (p y x ly lx) (square_same (sample_at b y x))))

  -- padding, strides and what comes after the last row do not count
  pub score_visible : (a b a' b' : Plane) → Alike size a a' → Alike size b b'
      → squared_error_score (planes_of size a b) ≡ squared_error_score (planes_of size a' b')
  unfolding error_to row_error
  score_visible a b a' b' p q = rows _ _ (λ y x ly lx. rw (p y x ly lx, q y x ly lx))

  -- nor do they for the whole answer, its refusals with it: beside visible samples only tests 4 and 5 look at how a plane is lent
  pub visible_only : (frame plane : ℕ) {a b a' b' : Plane} → Equivalent size a a' → Equivalent size b b'
      → squared_error_of (planes_of size a b) frame plane ≡ squared_error_of (planes_of size a' b') frame plane
  unfolding squared_error_of
  visible_only frame plane {a} {b} {a'} {b'} p q =
      rw (refusal_same plane _ _ (refusal_equivalent size 0 p q), score_visible a b a' b' p.alike q.alike)

  -- which plane comes first does not count
  score_exchanged : (a b : Plane) → squared_error_score (planes_of size a b) ≡ squared_error_score (planes_of size b a)
  unfolding error_to row_error
  score_exchanged a b = rows _ _ (λ y x ly lx. square_swap (sample_at a y x) (sample_at b y x))

  pub exchanged : (frame plane : ℕ) (a b : Plane) → squared_error_of (planes_of size a b) frame plane ≡ squared_error_of (planes_of size b a) frame plane
  unfolding squared_error_of
  exchanged frame plane a b = rw (refusal_same plane _ _ (refusal_exchanged size a b 0), score_exchanged a b)

-- ---- whose they are
-- planes that are taken, with a number that no plane has
pub number_refused : (p : Planes) (frame plane : ℕ) → pair_refusal p 0 ≡ Ok tt → most_plane < plane → squared_error_of p frame plane ≡ Err no.Record
unfolding squared_error_of plane_suits
number_refused p frame plane e l = rw (number_refuses plane p e (lt-leb plane most_plane l)) refl

-- ---- the record
-- no plane has more samples than a record may count: said of the limits, whatever they are
counts_fit : side_limit * side_limit ≤ count_limit
unfolding side_limit count_limit
counts_fit = lit≤ tt

one_depth : (wide : Bool) → 1 ≤ least_depth wide
unfolding least_depth
one_depth true = lit≤ tt
one_depth false = lit≤ tt

module _ {p : Planes} {least : ℕ} (c : AcceptedPair p least) where
  abbrev size : Size
  size = p.size

  abbrev count : ℕ
  count = size.width * size.height

  abbrev top : ℕ
  top = max_of size.depth

  count_ok : count_suits count ≡ true
  unfolding count_suits
  count_ok =
      rw (
        le-leb 1 count (mul-pos c.sized.width_least c.sized.height_least),
        le-leb count count_limit (le_trans (area_le c.sized.width_most c.sized.height_most) counts_fit),
      )

  max_ok : max_suits top ≡ true
  unfolding max_suits
  max_ok =
      let wide = size.wide in
      let e : size.depth - 1 + 1 ≡ size.depth = omega (arith, c.sized.depth_least, one_depth wide) in
      some_true _ (most_depth true) (size.depth - 1)
      (omega (arith, c.sized.depth_least, c.sized.depth_most, one_depth wide, deepest wide))
      (rw e (eq-eqb top top refl))

  most : squared_error_score p ≤ count * (top * top)
  most =
      let l = error_le top p size.height (λ y ly x lx. c.each.0.bounded.small y x ly lx) (λ y ly x lx. c.each.1.0.bounded.small y x ly lx) in
      rw (← (mul_assoc size.height size.width (top * top)), mul_comm size.height size.width) at l

  error_ok : error_suits (count * (top * top)) (double (squared_error_score p)) ≡ true
  unfolding error_suits total_limit
  error_ok =
      let l : squared_error_score p ≤ exact_limit = le_of_lt (error_below (walkable c) (le_refl _)) in
      let w = whole_back (squared_error_score p) l in
      rw (w.0, w.1, le-leb _ _ most)

  -- the record that a call answers is never bad
  pub record_suits_lem : (frame plane : ℕ) → plane_suits plane ≡ true → record_suits (record_of p frame plane) ≡ true
  unfolding record_suits
  record_suits_lem frame plane number_ok = rw (count_ok, max_ok, error_ok, number_ok)

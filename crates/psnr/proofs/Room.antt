-- Which series 11 can meet: none whose count leaves room for the largest error that so many samples can have (`room_enough`). So no frame of three
-- planes that were taken, where both chroma planes together have no more samples than one plane may have (`frame_fits`), and none below the largest
-- depth (`shallow_fits`). Three records of the largest error it does meet (`three_refused`). Assumes nothing.
use Rattle.std.proofs.Common.{◌≡◌, ℕ, ◌+◌, ◌-◌, ◌*◌, ◌<◌, ◌≤◌, true, ◌&&◌, leb, List, [], ◌∷◌, length, refl, le_trans, le_refl, le_of_lt, add-mul, mul-le-mul, arith, lit<, lit≤, eq-eqb, eqb-true, le-leb}
use borrow.Author.Tests.{lt-leb}
use Rattle.std.specs.Prelude.{Ok, Err}
use Rattle.refusal.specs.declared.Refusal.TheVariants as no
use Rattle.refusal.proofs.Chain.{and_left, and_right}
use Rattle.plane.specs.Limits.{most_depth}
use Rattle.plane.specs.Plane.{Planes, max_of, sample_limit}
use Rattle.plane.proofs.Depth.{max_grows}
use Rattle.number.specs.Steps.{double}
use Rattle.psnr.specs.declared.Record.{Record}
use Rattle.psnr.specs.Limits.{count_limit, most_plane, record_limit, total_limit}
use Rattle.psnr.specs.Record.{is_whole, whole_of, some_to, count_suits, max_suits, error_suits, plane_suits, record_suits, joins}
use Rattle.psnr.specs.Squared.{record_of, squared_error_refusal}
use Rattle.psnr.specs.Series.{first_max, all_join, rising, run_suits, error_total, count_total, series_refusal}
use Rattle.psnr.proofs.Records.{max_says, joins_suits, suits_count, suits_max, suits_most, squares_fit}
use Rattle.psnr.proofs.Accept.{error_taken}
use Rattle.psnr.proofs.Laws.{record_suits_lem}
use Rattle.psnr.proofs.Rising.{next_plane}
use Rattle.psnr.proofs.Whole.{whole_back}

-- the largest error of a record, and what of it twice and three times fits: said of the limits, whatever they are
abbrev most_error : ℕ
most_error = count_limit * (sample_limit * sample_limit)

two_fit : 2 * count_limit * (sample_limit * sample_limit) ≤ total_limit
unfolding count_limit most_depth max_of total_limit
two_fit = lit≤ tt

pub count_some : 1 ≤ count_limit
unfolding count_limit
count_some = lit≤ tt

shallow_three : 3 * count_limit * (max_of (most_depth true - 1) * max_of (most_depth true - 1)) ≤ total_limit
unfolding count_limit most_depth max_of total_limit
shallow_three = lit≤ tt

three_past : total_limit < most_error + (most_error + most_error)
unfolding count_limit most_depth max_of total_limit
three_past = lit< tt

-- ---- the errors of a series are at most as many largest squares as its records count samples
module _ (max : ℕ) (r : Record) (j : joins max r ≡ true) where
  its_max : r.sample_max ≡ max
  unfolding joins
  its_max = eqb-true r.sample_max max (and_right (record_suits r) _ j)

  pub max_suits_lem : max_suits max ≡ true
  max_suits_lem = rw its_max at (suits_max r (joins_suits max r j))

  error_most : whole_of r.sq_err ≤ r.n * (max * max)
  error_most = rw its_max at (suits_most r (joins_suits max r j))

pub errors_most : (max : ℕ) (rs : List Record) → all_join max rs ≡ true → error_total rs ≤ count_total rs * (max * max)
unfolding all_join error_total count_total
errors_most max [] j = omega arith
errors_most max (r ∷ rs) j =
    rw (add-mul r.n (count_total rs) (max * max))
    (omega (arith, error_most max r (and_left (joins max r) (all_join max rs) j), errors_most max rs (and_right (joins max r) (all_join max rs) j)))

-- 11 does not meet a series whose largest error fits
pub room_enough : (rs : List Record) → run_suits rs ≡ true → count_total rs * (first_max rs * first_max rs) ≤ total_limit → series_refusal rs ≡ Ok tt
unfolding run_suits
room_enough rs e l =
    let few = leb 1 (length rs) && leb (length rs) record_limit in
    let j = and_right few (all_join (first_max rs) rs) (and_left _ (rising rs) e) in
    rw (e, le-leb (error_total rs) total_limit (le_trans (errors_most (first_max rs) rs j) l))

-- ---- a frame: the records that three calls answered at one depth
module _ (number : ℕ) (y u v : Planes) (du : u.size.depth ≡ y.size.depth) (dv : v.size.depth ≡ y.size.depth)
    (ey : squared_error_refusal y 0 ≡ Ok tt) (eu : squared_error_refusal u 1 ≡ Ok tt) (ev : squared_error_refusal v 2 ≡ Ok tt) where
  abbrev frame : List Record
  frame = record_of y number 0 ∷ record_of u number 1 ∷ record_of v number 2 ∷ []

  abbrev max : ℕ
  max = max_of y.size.depth

  module _ (p : Planes) (plane : ℕ) (e : squared_error_refusal p plane ≡ Ok tt) where
    sound : record_suits (record_of p number plane) ≡ true
    sound = let taken = error_taken plane p e in record_suits_lem taken.0 number plane taken.1

    joined : p.size.depth ≡ y.size.depth → joins max (record_of p number plane) ≡ true
    unfolding joins
    joined d = rw (sound, d, eq-eqb max max refl)

    count_most : p.size.width * p.size.height ≤ count_limit
    count_most = suits_count (record_of p number plane) sound

  frame_suits : run_suits frame ≡ true
  unfolding run_suits all_join rising record_limit
  frame_suits = rw (joined y 0 ey refl, joined u 1 eu du, joined v 2 ev dv, next_plane number 0 1 (lit< tt), next_plane number 1 2 (lit< tt))

  -- 11 does not meet it where both chroma planes together have no more samples than one plane may have
  pub frame_fits : u.size.width * u.size.height + v.size.width * v.size.height ≤ count_limit → series_refusal frame ≡ Ok tt
  unfolding count_total
  frame_fits l =
      let few : count_total frame ≤ 2 * count_limit = omega (arith, l, count_most y 0 ey) in
      let small = max_says max (max_suits_lem max (record_of y number 0) (joined y 0 ey refl)) in
      room_enough frame frame_suits (le_trans (mul-le-mul few (mul-le-mul small small)) two_fit)

  -- nor, whatever its planes, below the largest depth
  pub shallow_fits : y.size.depth < most_depth true → series_refusal frame ≡ Ok tt
  unfolding count_total
  shallow_fits l =
      let few : count_total frame ≤ 3 * count_limit = omega (arith, count_most y 0 ey, count_most u 1 eu, count_most v 2 ev) in
      let small : max ≤ max_of (most_depth true - 1) = max_grows (omega arith) in
      room_enough frame frame_suits (le_trans (mul-le-mul few (mul-le-mul small small)) shallow_three)

-- ---- three records of the largest error, those of one frame
abbrev pub largest : ℕ → ℕ → Record
largest frame plane = record { sq_err = double most_error; n = count_limit; sample_max = sample_limit; frame = frame; plane = plane }

its_error : (is_whole (double most_error) ≡ true) × (whole_of (double most_error) ≡ most_error)
unfolding total_limit
its_error = whole_back most_error (le_of_lt squares_fit)

largest_joins : (frame plane : ℕ) → plane ≤ most_plane → joins sample_limit (largest frame plane) ≡ true
unfolding joins record_suits count_suits max_suits error_suits plane_suits some_to most_depth max_of
largest_joins frame plane number =
    rw (
      le-leb 1 count_limit count_some,
      le-leb count_limit count_limit (le_refl count_limit),
      its_error.0,
      its_error.1,
      le-leb most_error most_error (le_refl most_error),
      le-leb plane most_plane number,
    )

three_planes : 2 ≤ most_plane
unfolding most_plane
three_planes = lit≤ tt

-- 11 meets them
pub three_refused : (frame : ℕ) → series_refusal (largest frame 0 ∷ largest frame 1 ∷ largest frame 2 ∷ []) ≡ Err no.Total
unfolding run_suits all_join rising error_total record_limit
three_refused frame =
    rw (
      largest_joins frame 0 (omega arith),
      largest_joins frame 1 (omega (arith, three_planes)),
      largest_joins frame 2 three_planes,
      next_plane frame 0 1 (lit< tt),
      next_plane frame 1 2 (lit< tt),
      its_error.1,
      lt-leb (most_error + (most_error + (most_error + 0))) total_limit (omega (arith, three_past)),
    )

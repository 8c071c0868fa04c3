-- Every possible state is reached: its own begin and one feed of black rows give its numbers. With `reached_possible` this says that `possible` is
-- exact. Assumes nothing.
use mathlib.Core.Path.{◌≡◌, refl, sym, ap, ◌∙◌}
use mathlib.Core.Bool.{Bool, true, or-true}
use mathlib.Core.List.{List, [], ◌∷◌, ◌++◌}
use Prim.Native.Nat.{ℕ, ◌+◌, ◌-◌, ◌*◌, ◌≤◌}
use native.Mathlib.Nat.{mul-le-mul, le_refl}
use native.Mathlib.Omega.{arith}
use borrow.Author.Tests.{le-leb, eqb-true}
use lib.Dec.{lit≤, leb}
use lib.IntN.{ℤ, pos}
use lib.ListN.{length, drop, replicate, length-append, length-drop, length-replicate, take-append-drop}
use lib.Seq.{ext_get_or}
use Rattle.std.specs.Prelude.{Ok}
use Rattle.refusal.proofs.Chain.{and_right, none_broken}
use Rattle.plane.specs.Limits.{side_limit, stride_limit}
use Rattle.plane.specs.Plane.{Size, Plane, Planes, plane_of, size_of, planes_of, needed}
use Rattle.plane.specs.Tests.{sides_reach, stride_suits, long_enough, row_suits, samples_suit, size_tests}
use Rattle.plane.proofs.All.{all_at, all_true, none_true}
use Rattle.kernel.specs.Kernel.{most_taps, lent_total, lawful}
use Rattle.ssim.specs.Answer.{lent_tests}
use Rattle.ssim.specs.Scratch.{scratch_places, cleared}
use Rattle.rowfed.specs.declared.State.{State}
use Rattle.rowfed.specs.State.{held_kernel, kernel_of, places_of, zeros, places_suit, counts_suit, possible}
use Rattle.rowfed.specs.Begin.{begin_tests, begin_refusal}
use Rattle.rowfed.specs.Feed.{rows_tests, late_tests, feed_tests, feed_refusal}
use Rattle.rowfed.specs.Runs.{Between, fed_once, begun_with, SameNumbers, Reached}
use Rattle.rowfed.proofs.Accept.{depth_suits_lem, sides_suit_lem, places_suit_lem, counts_suit_lem, kernel_lawful, sound_state}
use Rattle.rowfed.proofs.Given.{zeros_at, begin_possible}

-- ---- the kernel that a possible state holds
zeros_say : (l : List ℕ) → zeros l ≡ true → l ≡ replicate (length l) 0
unfolding zeros
zeros_say l e =
    ext_get_or 0 l (replicate (length l) 0) (sym (length-replicate (length l) 0))
    (λ i m. eqb-true _ _ (all_at _ (length l) e i m) ∙ sym (zeros_at (length l) i))

holds_kernel : (wide : Bool) (s : State) → possible wide s ≡ true → length s.kernel ≡ most_taps → held_kernel (kernel_of s) ≡ s.kernel
unfolding places_suit
holds_kernel wide s e full =
    let past = and_right (lawful lent_total (kernel_of s)) _ (and_right (leb s.taps (length s.kernel)) _ (places_suit_lem wide s e)) in
    let count : most_taps - length (kernel_of s) ≡ length (drop s.taps s.kernel) =
    omega (arith, full, (sound_state wide s e).count, length-drop s.taps s.kernel) in
    rw count (ap (λ (l : List ℕ). kernel_of s ++ l) (sym (zeros_say _ past)) ∙ take-append-drop s.taps s.kernel)

-- ---- black rows, which no test refuses
strides_reach : side_limit ≤ stride_limit
unfolding side_limit stride_limit
strides_reach = lit≤ tt

module _ (size : Size) where
  -- a row to spare, so that no rows are no case of their own
  abbrev many : ℕ
  many = size.width * size.height + size.width

  abbrev black : Plane
  black = plane_of (replicate many 0) size.width

  black_stride : size.width ≤ side_limit → stride_suits size.width black.stride ≡ true
  unfolding stride_suits
  black_stride l = rw (le-leb size.width size.width (le_refl _), le-leb size.width stride_limit (omega (arith, strides_reach)))

  black_long : long_enough size black ≡ true
  unfolding long_enough
  black_long =
      let fewer : size.width * (size.height - 1) ≤ size.width * size.height = mul-le-mul (le_refl _) (omega arith) in
      let enough : needed size.width size.height black.stride ≤ length black.samples =
      omega (arith, fewer, length-replicate {A = ℕ} many 0) in
      le-leb _ _ enough

  black_samples : samples_suit size black ≡ true
  unfolding samples_suit row_suits
  black_samples =
      all_true _ size.height (λ r. none_true _ _ size.width (λ c. omega (arith, zeros_at many (r * size.width + c))))

-- ---- the begin and the feed of a state
module _ (wide : Bool) (s : State) where
  abbrev whole : Size
  whole = size_of wide s.width s.height s.depth

  abbrev rows : Size
  rows = size_of wide s.width s.rows s.depth

  abbrev feed : Planes
  feed = planes_of rows (black rows) (black rows)

  abbrev room : List ℤ
  room = replicate (places_of s) (pos 0)

  abbrev start : Between
  start = begun_with whole (kernel_of s) room

  module _ (e : possible wide s ≡ true) where
    count : length (kernel_of s) ≡ s.taps
    count = (sound_state wide s e).count

    begins : begin_refusal whole (kernel_of s) (length room) ≡ Ok tt
    unfolding begin_tests size_tests lent_tests sides_reach
    begins =
        let lent : scratch_places s.width (length (kernel_of s)) ≤ length room = rw (count, length-replicate (places_of s) (pos 0)) (le_refl _) in
        none_broken (begin_tests whole (kernel_of s) (length room)) (
          depth_suits_lem wide s e,
          (
            sides_suit_lem wide s e,
            (rw (le-leb 0 s.width (omega arith), le-leb 0 s.height (omega arith)), (kernel_lawful wide s e, (le-leb _ _ lent, tt))),
          ),
        )

    feeds : feed_refusal start.state feed (length start.scratch) ≡ Ok tt
    unfolding feed_tests rows_tests late_tests
    feeds =
        let sound = sound_state wide s e in
        let need = scratch_places s.width (length (kernel_of s)) in
        let lent = length-append (replicate need (pos 0)) (drop need room) in
        rw (
          begins,
          begin_possible whole (kernel_of s) room begins,
          black_stride rows sound.width_most,
          black_long rows,
          or-true,
          black_samples rows,
          le-leb need (length (cleared (pos 0) need room)) (omega (arith, lent, length-replicate need (pos 0))),
          le-leb (0 + s.rows) s.height (omega (arith, sound.rows_most)),
        )

    numbers : length s.kernel ≡ most_taps → SameNumbers s (fed_once start feed).state
    unfolding counts_suit
    numbers full =
        let all : 0 + s.rows ≡ s.rows = omega arith in
        let scored = eqb-true _ _ (and_right (leb s.rows s.height) _ (counts_suit_lem wide s e)) in
        rw (feeds, begins) (
        record {
          width = refl;
          height = refl;
          depth = refl;
          taps = sym count;
          kernel = sym (holds_kernel wide s e full);
          rows = sym all;
          scored = rw (all, count) scored;
        })

-- ---- the theorem; in the code every state has most_taps places for its kernel
pub possible_reached : (wide : Bool) (s : State) → possible wide s ≡ true → length s.kernel ≡ most_taps → Reached wide s
possible_reached wide s e full =
    record {
      size = whole wide s;
      ker = kernel_of s;
      scratch = room wide s;
      feeds = feed wide s ∷ [];
      of_wide = refl;
      begun = begins wide s e;
      fed = (refl, (feeds wide s e, tt));
      same = numbers wide s e full;
    }

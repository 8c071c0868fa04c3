-- Laws of the scales and their pairs: planes that show the same have the same pairs, and how the pairs of the scales that are left are
-- made. Assumes nothing.
use mathlib.Core.Path.{◌≡◌, refl, sym, ◌∙◌}
use mathlib.Core.Bool.{true, false}
use mathlib.Core.List.{List, [], ◌∷◌, append-nil}
use Prim.Native.Nat.{ℕ, zero, suc, ◌+◌, ◌-◌, ◌*◌, ◌/◌, ◌^◌, ◌≤◌, ◌<◌}
use native.Mathlib.Nat.{pow-suc, one-le-pow, mul-le-mul_left, le_refl}
use native.Mathlib.Numerals.{sub-one}
use native.Mathlib.Omega.{arith}
use Rattle.std.proofs.lemmas.Grind.{common_steps}
use borrow.Author.Rules.{part_to_end}
use borrow.Rule.Slice.PartMut.{put_mid}
use lib.Dec.{lit<, eqb}
use lib.ListN.{length, take, drop, set, length-drop, length-set, drop_of_length-le}
use Rattle.plane.specs.Plane.{plane_of, sample_at}
use Rattle.window.specs.Moments.{most_sample}
use Rattle.window.proofs.Visible.{Same}
use Rattle.ssim.proofs.Visible.{totals_ext}
use Rattle.downscale.specs.Summed.{summed_of}
use Rattle.downscale.specs.Inner.Longs.{Filled}
use Rattle.ssim.specs.declared.Ssim.{Ssim}
use Rattle.msssim.specs.Scale.{Scale, scale_of, below_of, scale_totals, mean_pair, pairs_from}

-- ---- views that show the same inside the plane
summed_ext : (width height : ℕ) (v w : ℕ → ℕ → ℕ) → Same width height v w → Same (width / 2) (height / 2) (summed_of v) (summed_of w)
summed_ext width height v w h r c k l =
    rw (
      h (2 * r) (2 * c) (omega arith) (omega arith),
      h (2 * r) (2 * c + 1) (omega arith) (omega arith),
      h (2 * r + 1) (2 * c) (omega arith) (omega arith),
      h (2 * r + 1) (2 * c + 1) (omega arith) (omega arith),
    )

pub pairs_ext : (left max width height : ℕ) (a a' b b' : ℕ → ℕ → ℕ) → Same width height a a' → Same width height b b'
    → pairs_from left (scale_of max width height a b) ≡ pairs_from left (scale_of max width height a' b')
unfolding pairs_from
pairs_ext zero max width height a a' b b' p q = refl
pairs_ext (suc left) max width height a a' b b' p q =
    rw (
      totals_ext _ width height a a' b b' p q _ height,
      pairs_ext left (4 * max) (width / 2) (height / 2) (summed_of a) (summed_of a') (summed_of b) (summed_of b')
          (summed_ext width height a a' p) (summed_ext width height b b' q),
    )

-- ---- the scales that are left

-- whether some are left, as the test tells it
pub some_left : (n : ℕ) → false ≡ eqb n 0 → 0 < n
some_left n e = grind (arith, common_steps, e)

pub none_left : (n : ℕ) → true ≡ eqb n 0 → n ≤ 0
none_left n e = grind (arith, common_steps, e)

-- where scales are left, their samples fit, and so do those of the scales below
pub left_fits : (left max : ℕ) → 0 < left → max * 4 ^ left ≤ 4 * most_sample
    → (max ≤ most_sample) × (4 * max * 4 ^ (left - 1) ≤ 4 * most_sample)
left_fits zero max l h = absurd (omega arith)
left_fits (suc n) max l h =
    let e : max * 4 ^ suc n ≡ 4 * max * 4 ^ n = rw (pow-suc 4 n) (omega arith) in
    let some = mul-le-mul_left (4 * max) (one-le-pow n 4 (lit< tt)) in
    (omega (arith, e, some), rw (sub-one (suc n)) (omega (arith, e)))

-- ---- the pairs of the scales that are left
pairs_more : (left : ℕ) (s : Scale) → 0 < left → pairs_from left s ≡ mean_pair (scale_totals s) ∷ pairs_from (left - 1) (below_of s)
unfolding pairs_from
pairs_more zero s l = absurd (omega arith)
pairs_more (suc n) s l = rw (sub-one (suc n))

pub pairs_none : (s : Scale) (l : List Ssim) → length l ≤ 0 → l ≡ pairs_from (length l) s
unfolding pairs_from
pairs_none s [] h = refl
pairs_none s (p ∷ l) h = absurd (omega arith)

-- ---- the part that is lent to the scales below: all places but the first, which has its pair
pub rest_length : (p : Ssim) (l : List Ssim) → 0 < length l → length (take (length (set l 0 p) - 1) (drop 1 (set l 0 p))) ≡ length l - 1
rest_length p l some = rw (part_to_end (set l 0 p) 1, length-drop 1 (set l 0 p), length-set l 0 p)

rest_back : (p : Ssim) (l last : List Ssim) → put_mid 1 (length (p ∷ l) - 1) (p ∷ l) last ≡ p ∷ last
rest_back p l last = rw (← (length-drop 1 (p ∷ l)), drop_of_length-le (drop 1 (p ∷ l)) (le_refl _), append-nil last)

-- a scale scored, and those below it
module _ (max width height : ℕ) (a a' b b' : List ℕ) where
  abbrev here : Scale
  here = scale_of max width height (sample_at (plane_of a width)) (sample_at (plane_of b width))

  abbrev below : Scale
  below = scale_of (4 * max) (width / 2) (height / 2) (sample_at (plane_of a' (width / 2))) (sample_at (plane_of b' (width / 2)))

  pub pairs_step : (p : Ssim) (l last : List Ssim) → 0 < length l → p ≡ mean_pair (scale_totals here)
      → last ≡ pairs_from (length (take (length (set l 0 p) - 1) (drop 1 (set l 0 p)))) below
      → Filled a a' (width / 2) (summed_of (sample_at (plane_of a width))) (height / 2)
      → Filled b b' (width / 2) (summed_of (sample_at (plane_of b width))) (height / 2)
      → put_mid 1 (length (set l 0 p) - 1) (set l 0 p) last ≡ pairs_from (length l) here
  pairs_step p [] last some e f q r = absurd (omega arith)
  pairs_step p (x ∷ l) last some e f q r =
      rest_back p l last
      ∙ rw (
        f,
        rest_length p (x ∷ l) some,
        e,
        pairs_ext (length (x ∷ l) - 1) (4 * max) (width / 2) (height / 2) (sample_at (plane_of a' (width / 2))) (summed_of (sample_at (plane_of a width)))
            (sample_at (plane_of b' (width / 2))) (summed_of (sample_at (plane_of b width))) q.rows r.rows,
      )
      (sym (pairs_more (length (x ∷ l)) here some))

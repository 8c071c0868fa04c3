-- SCOPE, "When the desk says no" and "HVS, SSIM and scales": the answer of MS-SSIM for every case, five pairs or the lowest refusal of
-- 1 2 3 4 5 6 8, then 9, and what stands in the scratch afterwards. Definitions only.
use Rattle.std.specs.Prelude.{Bool, true, false, ◌&&◌, List, [], ◌∷◌, ◌++◌, ℕ, Result, Ok, Err}
use Rattle.std.specs.List.{list_all}
use Rattle.std.specs.Float.Ieee.Scale as Ieee
use Rattle.refusal.specs.declared.Refusal.{Refusal}
use Rattle.refusal.specs.declared.Refusal.TheVariants as no
use Rattle.refusal.specs.First.{Verdict, first_broken, by_refusal, unless_refused}
use Rattle.plane.specs.Plane.{Planes, max_of, sample_at}
use Rattle.plane.specs.Tests.{pair_tests}
use Rattle.ssim.specs.declared.Ssim.{Ssim}
use Rattle.msssim.specs.Scale.{Scale, scale_of, scale_count, pairs_from}
use Rattle.msssim.specs.Scratch.{Scratch, scratch_suits, all_cleared}

-- ---- refusals before the score

-- 3: the least side
unfoldable pub least_side : ℕ
least_side = 16

-- 1 2 3 4 5 6 8 in ascending order
abbrev pub msssim_refusal : Planes → Scratch → Verdict
msssim_refusal p s = first_broken (pair_tests p least_side ++ (no.Scratch, scratch_suits p.size s) ∷ [])

-- ---- the score

-- neither number of a pair is infinite or not a number
abbrev pub pair_finite : Ssim → Bool
pair_finite p = Ieee.finite p.ssim && Ieee.finite p.cs

-- none of all their numbers is
abbrev pub all_finite : List Ssim → Bool
all_finite = list_all pair_finite

-- the five pairs, or 9
abbrev pub five_or9 : Bool → List Ssim → Result (List Ssim) Refusal
five_or9 true pairs = Ok pairs
five_or9 false pairs = Err no.NotFinite

abbrev pub five_of : List Ssim → Result (List Ssim) Refusal
five_of l = five_or9 (all_finite l) l

-- the first scale: the two planes as they are lent
abbrev pub first_scale : Planes → Scale
first_scale p = scale_of (max_of p.size.depth) p.size.width p.size.height (sample_at p.a) (sample_at p.b)

-- the score of two planes that no test refuses
abbrev pub msssim_score : Planes → Result (List Ssim) Refusal
msssim_score p = five_of (pairs_from scale_count (first_scale p))

-- ---- the answer

-- the refusal, where there is one; else the score
abbrev pub msssim_of : Planes → Scratch → Result (List Ssim) Refusal
msssim_of p s = unless_refused (msssim_refusal p s) (msssim_score p)

-- what then stands in the scratch: refused, and not by 9, all is as it was
abbrev pub scratch_after : Planes → Scratch → Scratch
scratch_after p s = by_refusal (msssim_refusal p s) (all_cleared p.size s) s

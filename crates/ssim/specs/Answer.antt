-- SCOPE: the answer of SSIM for every case, the pair or the lowest refusal of 1 2 4 5 6 7 8, then 9. Definitions only.
use Rattle.std.specs.Prelude.{Bool, true, false, ◌&&◌, List, [], ◌∷◌, ◌++◌, ℕ, ◌*◌, leb, Float, ℤ, Result, Ok, Err, pos, length}
use Rattle.std.specs.Float.Ieee.Scale as Scale
use Rattle.refusal.specs.declared.Refusal.{Refusal}
use Rattle.refusal.specs.declared.Refusal.TheVariants as no
use Rattle.refusal.specs.First.{Verdict, first_broken, by_refusal, unless_refused}
use Rattle.number.specs.Steps.{◌⊘◌, double}
use Rattle.plane.specs.Plane.{Planes, max_of}
use Rattle.plane.specs.Tests.{pair_tests}
use Rattle.kernel.specs.Kernel.{lawful, lent_total}
use Rattle.ssim.specs.Score.{totals_in}
use Rattle.ssim.specs.Scratch.{scratch_places, cleared}
use Rattle.ssim.specs.declared.Ssim.{Ssim}
use Rattle.ssim.specs.declared.Totals.{Totals}

-- ---- refusals before the score

-- 7 and 8, after those of the planes
unfoldable pub lent_tests : ℕ → List ℕ → ℕ → List (Refusal × Bool)
lent_tests width ker lent = (no.Kernel, lawful lent_total ker) ∷ (no.Scratch, leb (scratch_places width (length ker)) lent) ∷ []

-- 1 2 4 5 6 7 8 in ascending order: the planes, the kernel, and how many places of scratch are lent
abbrev pub ssim_refusal : Planes → List ℕ → ℕ → Verdict
ssim_refusal p ker lent = first_broken (pair_tests p 0 ++ lent_tests p.size.width ker lent)

-- ---- the answer

-- the pair, or 9 where one of the two is infinite or not a number
abbrev pub pair_or9 : Bool → Float → Float → Result Ssim Refusal
pair_or9 true ssim cs = Ok (record { ssim = ssim; cs = cs })
pair_or9 false ssim cs = Err no.NotFinite

-- (ssim / ssimw, cs / ssimw)
abbrev pub pair_of : Totals → Result Ssim Refusal
pair_of t =
    let ssim = t.ssim ⊘ t.ssimw in
    let cs = t.cs ⊘ t.ssimw in
    pair_or9 (Scale.finite ssim && Scale.finite cs) ssim cs

-- the score of two planes that no test refuses
abbrev pub ssim_score : Planes → List ℕ → Result Ssim Refusal
ssim_score p ker = let max = max_of p.size.depth in pair_of (totals_in (double (max * max)) ker p p.size.height)

-- the refusal, where there is one; else the score
abbrev pub ssim_of : Planes → List ℕ → List ℤ → Result Ssim Refusal
ssim_of p ker scratch = unless_refused (ssim_refusal p ker (length scratch)) (ssim_score p ker)

-- what then stands in the scratch: refused, what stood there; else, and at 9, the needed part is zero
abbrev pub scratch_after : Planes → List ℕ → List ℤ → List ℤ
scratch_after p ker scratch =
    by_refusal (ssim_refusal p ker (length scratch)) (cleared (pos 0) (scratch_places p.size.width (length ker)) scratch) scratch

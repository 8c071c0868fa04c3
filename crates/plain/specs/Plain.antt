-- SCOPE: the answer of the plain SSIM engine for every case, the pair or the lowest refusal of 1 2 4 5 6 7, then 9. It is lent no scratch,
-- so 8 does not belong to it. The score is SSIM's own. Definitions only.
use Rattle.std.specs.Prelude.{Bool, List, [], ◌∷◌, ◌++◌, ℕ, Result}
use Rattle.refusal.specs.declared.Refusal.{Refusal}
use Rattle.refusal.specs.declared.Refusal.TheVariants as no
use Rattle.refusal.specs.First.{Verdict, first_broken, unless_refused}
use Rattle.plane.specs.Plane.{Planes}
use Rattle.plane.specs.Tests.{pair_tests}
use Rattle.kernel.specs.Kernel.{lawful, lent_total}
use Rattle.ssim.specs.Answer.{ssim_score}
use Rattle.ssim.specs.declared.Ssim.{Ssim}

-- 1 2 4 5 6 7 in ascending order: the planes, then the kernel
abbrev pub plain_tests : Planes → List ℕ → List (Refusal × Bool)
plain_tests p ker = pair_tests p 0 ++ (no.Kernel, lawful lent_total ker) ∷ []

abbrev pub plain_refusal : Planes → List ℕ → Verdict
plain_refusal p ker = first_broken (plain_tests p ker)

-- the refusal, where there is one; else the score
abbrev pub plain_of : Planes → List ℕ → Result Ssim Refusal
plain_of p ker = unless_refused (plain_refusal p ker) (ssim_score p ker)

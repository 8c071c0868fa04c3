-- SCOPE, "HVS, SSIM and scales": five scales, each of half the sides of the one above, rounded down, its samples summed 2×2, and its largest
-- sample times 4; and a pair for each. Definitions only.
use Rattle.std.specs.Prelude.{List, [], ◌∷◌, ℕ, zero, suc, ◌*◌, ◌/◌, Float}
use Rattle.number.specs.Steps.{◌⊘◌, double}
use Rattle.kernel.specs.Kernel.{fixed_kernel}
use Rattle.downscale.specs.Summed.{summed_of}
use Rattle.ssim.specs.Score.{totals_of}
use Rattle.ssim.specs.declared.Ssim.{Ssim}
use Rattle.ssim.specs.declared.Totals.{Totals}

-- how many scales there are
unfoldable pub scale_count : ℕ
scale_count = 5

-- the two planes of one scale: their largest sample, their sides, and what stands at row r and column c of each
pub record Scale : Type 0 where
  pub max : ℕ
  pub width : ℕ
  pub height : ℕ
  pub a : ℕ → ℕ → ℕ
  pub b : ℕ → ℕ → ℕ

abbrev pub scale_of : ℕ → ℕ → ℕ → (ℕ → ℕ → ℕ) → (ℕ → ℕ → ℕ) → Scale
scale_of max width height a b = record { max = max; width = width; height = height; a = a; b = b }

-- the scale below
abbrev pub below_of : Scale → Scale
below_of s = scale_of (4 * s.max) (s.width / 2) (s.height / 2) (summed_of s.a) (summed_of s.b)

-- the sums over every centre of a scale, under the fixed kernel
abbrev pub scale_totals : Scale → Totals
scale_totals s = totals_of (double (s.max * s.max)) fixed_kernel s.width s.height s.a s.b s.height

-- the pair of a scale: (ssim / ssimw, cs / ssimw)
abbrev pub mean_ssim : Totals → Float
mean_ssim t = t.ssim ⊘ t.ssimw

abbrev pub mean_cs : Totals → Float
mean_cs t = t.cs ⊘ t.ssimw

abbrev pub mean_pair : Totals → Ssim
mean_pair t = record { ssim = mean_ssim t; cs = mean_cs t }

-- the pairs of a scale and of those below it, so many in all
unfoldable pub pairs_from : ℕ → Scale → List Ssim
pairs_from zero s = []
pairs_from (suc left) s = mean_pair (scale_totals s) ∷ pairs_from left (below_of s)

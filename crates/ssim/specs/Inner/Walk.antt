-- The walk's sums, of two planes as it reads them. Definitions only.
use Rattle.std.specs.Prelude.{List, ℕ, Float}
use Rattle.plane.specs.Plane.{sample_at}
use Rattle.window.specs.Inner.Columns.{OnGrid}
use Rattle.ssim.specs.Score.{totals_of}
use Rattle.ssim.specs.declared.Totals.{Totals}

-- the first n rows of centres
abbrev pub totals_on : Float → List ℕ → OnGrid → ℕ → Totals
totals_on max2 ker p n = totals_of max2 ker p.width p.height (sample_at p.a) (sample_at p.b) n

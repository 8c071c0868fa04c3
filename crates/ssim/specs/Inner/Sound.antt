-- What holds of a call's input that no test of Answer refuses, as facts (`sound`): the engine, which runs after the tests, asks for
-- these. Definitions only.
use Rattle.std.specs.Prelude.{List, ◌≡◌, ℕ, ◌*◌, ◌≤◌, ◌<◌, length}
use Rattle.plane.specs.Limits.{side_limit}
use Rattle.plane.specs.Plane.{Planes}
use Rattle.plane.specs.Sums.{sum_to}
use Rattle.kernel.specs.Kernel.{tap, most_taps, lent_total}
use Rattle.window.specs.Inner.Parts.{Kernel}
use Rattle.window.specs.Inner.Columns.{gridded, Summable, columns_of}
use Rattle.ssim.specs.Scratch.{scratch_places}

pub record Sound (p : Planes) (ker : List ℕ) (lent : ℕ) : Type 0 where
  pub taps_least : 1 ≤ length ker
  pub taps_most : length ker ≤ most_taps
  pub width_most : p.size.width ≤ side_limit
  pub height_most : p.size.height ≤ side_limit
  pub depth_most : p.size.depth < 32
  pub kernel : Kernel ker
  pub total : lent_total ≡ sum_to (tap ker) (length ker)
  pub summable : Summable (gridded p)
  pub lent_enough : scratch_places p.size.width (length ker) ≤ lent
  pub columns_fit : 5 * columns_of ker p.size.width ≤ scratch_places p.size.width (length ker)

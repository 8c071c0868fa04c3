-- `ssim::walk::rows` meets its contract: the rows above y are scored, and the margins are zero. Assumes nothing.
use mathlib.Core.Path.{◌≡◌}
use Prim.Native.Nat.{◌≤◌}
use lib.ListN.{length}
use Rattle.window.specs.Inner.Columns.{on_grid, Margins}
use Rattle.ssim.specs.Inner.Walk.{totals_on}
use Rattle.ssim.proofs.walk.rows.Given as goal

abbrev pub invariant-loop-y : goal.invariant-loop-y
invariant-loop-y g l =
    (l.y ≤ l.height) × (length l.cols ≡ length l.initial.cols) × Margins l.cols l.kernel l.width × (l.t ≡ totals_on l.max2 l.kernel (on_grid g.S.Sample.value l.p) l.y)

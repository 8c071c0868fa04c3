-- `window::columns::fill` meets its contract: the columns before x stand there. Assumes nothing.
use mathlib.Core.Path.{◌≡◌}
use Prim.Native.Nat.{◌≤◌, ◌*◌}
use lib.ListN.{length}
use Rattle.window.specs.Inner.Columns.{on_grid, HoldsRow}
use Rattle.window.proofs.columns.fill.Given as goal

abbrev pub invariant-loop-x : goal.invariant-loop-x
invariant-loop-x g l =
    (l.x ≤ l.p.format.width) × (length l.cols ≡ length l.initial.cols) × HoldsRow l.cols (5 * l.x) l.kernel (on_grid g.S.Sample.value l.p) l.y

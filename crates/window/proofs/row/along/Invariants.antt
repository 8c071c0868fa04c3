-- `window::row::along` meets its contract: k pairs are summed, and the middle. Assumes nothing.
use mathlib.Core.Path.{◌≡◌}
use Prim.Native.Nat.{◌≤◌, ◌/◌}
use lib.ListN.{length}
use Rattle.window.specs.Inner.Parts.{folds_of}
use Rattle.window.specs.Inner.Columns.{cell_of}
use Rattle.window.proofs.row.along.Given as goal

abbrev pub invariant-loop-k : goal.invariant-loop-k
invariant-loop-k l = (l.k ≤ length l.kernel / 2) × (l.t ≡ folds_of l.kernel (cell_of l.cols) l.x l.k)

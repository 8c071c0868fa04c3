-- `row_ring::fill` meets its contract: the columns before x stand there, and the ring is as it was. Assumes nothing.
use mathlib.Core.Path.{◌≡◌}
use Prim.Native.Nat.{◌*◌, ◌≤◌}
use lib.ListN.{length}
use Rattle.window.specs.Inner.Columns.{column_at, Put}
use Rattle.row_ring.specs.Ring.{ring_a, ring_b}
use Rattle.row_ring.proofs.fill.Given as goal

abbrev pub invariant-loop-x : goal.invariant-loop-x
invariant-loop-x l = (l.x ≤ l.ring.width) × (length l.s ≡ length l.initial.s)
    × Put l.initial.s l.s l.to (5 * l.x) (column_at l.kernel l.ring.height (ring_a l.initial.s l.ring.width l.ring.lines) (ring_b l.initial.s l.ring.width l.ring.lines) l.y)

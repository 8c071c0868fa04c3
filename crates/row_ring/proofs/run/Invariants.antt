-- `row_ring::run` meets its contract: the taps before k are in. Assumes nothing.
use mathlib.Core.Path.{◌≡◌}
use Prim.Native.Nat.{◌≤◌}
use Rattle.window.specs.Inner.Columns.{column_to}
use Rattle.row_ring.specs.Ring.{ring_a, ring_b}
use Rattle.row_ring.proofs.run.Given as goal

abbrev pub invariant-loop-k : goal.invariant-loop-k
invariant-loop-k l = (l.from ≤ l.k) × (l.k ≤ l.upto)
    × (l.t ≡ column_to l.kernel l.ring.height (ring_a l.s l.ring.width l.ring.lines) (ring_b l.s l.ring.width l.ring.lines) l.x l.y l.k)

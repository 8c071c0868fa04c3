-- `row_ring::score_rows` meets its contract. Assumes nothing.
use mathlib.Core.Path.{◌≡◌}
use Prim.Native.Nat.{◌-◌, ◌≤◌}
use Rattle.row_ring.specs.Ring.{ring_a, ring_b}
use Rattle.row_ring.specs.Taken.{rows_from}
use Rattle.row_ring.proofs.score_rows.Given as goal

abbrev pub invariant-loop-y : goal.invariant-loop-y
invariant-loop-y l = (l.from ≤ l.y) × (l.y ≤ l.upto) × (l.s ≡ l.initial.s)
    × (l.t ≡ rows_from l.by.max2 l.by.kernel.now l.by.ring.width l.by.ring.height (ring_a l.initial.s l.by.ring.width l.by.ring.lines) (ring_b l.initial.s l.by.ring.width l.by.ring.lines) l.initial.t l.from (l.y - l.from))

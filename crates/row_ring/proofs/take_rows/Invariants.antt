-- `row_ring::take_rows` meets its contract: the rows before i are taken. Assumes nothing.
use mathlib.Core.Path.{◌≡◌}
use Prim.Native.Nat.{◌≤◌}
use lib.ListN.{length}
use Rattle.plane.specs.Inner.Seen.{planes}
use Rattle.row_ring.specs.Taken.{taken_of}
use Rattle.row_ring.specs.Inner.Places.{Clean}
use Rattle.row_ring.proofs.take_rows.Given as goal

abbrev pub invariant-loop-i : goal.invariant-loop-i
invariant-loop-i g l = (l.i ≤ l.p.format.height) × (length l.s ≡ length l.initial.s) × Clean l.by.ring l.s
    × (record { places = l.s; totals = l.t } ≡ taken_of l.by.max2 l.by.kernel.now l.by.ring (planes g.S.Sample.value g.S.Stored.WIDE l.p) l.received (record { places = l.initial.s; totals = l.initial.t }) l.i)

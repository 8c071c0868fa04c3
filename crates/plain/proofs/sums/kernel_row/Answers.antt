-- One more place of the row is summed, and has room.
use Rattle.std.proofs.Common.{arith}
use Rattle.plane.specs.Inner.Seen.{planes}
use Rattle.plain.proofs.Parts.{row_room}
use Rattle.plain.proofs.sums.kernel_row.Goals as goal

pub plus-sum-requires : goal.plus-sum-requires
plus-sum-requires g c =
    let a = c.args in
    let r = c.requires in
    row_room (planes g.S.Sample.value g.S.Stored.WIDE a.p) r.accepted_pair a.kernel.now r.kernel_value a.x a.y (omega arith) (omega arith) a.i c.loop-j.j
    c.loop-j.invariant c.place.ensures (omega arith) (omega arith)

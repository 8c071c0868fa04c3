-- One more row of the kernel is summed, and has room.
use Rattle.std.proofs.Common.{arith}
use Rattle.plane.specs.Inner.Seen.{planes}
use Rattle.plain.proofs.Parts.{rows_room, rows_all}
use Rattle.plain.proofs.sums.moments_at.Goals as goal

pub plus-sum-requires : goal.plus-sum-requires
plus-sum-requires g c =
    let a = c.args in
    let r = c.requires in
    rows_room (planes g.S.Sample.value g.S.Stored.WIDE a.p) r.accepted_pair a.kernel.now r.kernel_value a.x a.y (omega arith) (omega arith) c.loop-i.i
    c.loop-i.invariant c.kernel_row.ensures (omega arith)

pub returns : goal.returns
returns g c = rows_all _ _ _ _ _ _ _ c.loop-i.invariant (omega arith)

-- The places before j are summed.
use Rattle.std.proofs.Common.{◌≡◌}
use Rattle.plane.specs.Plane.{sample_at}
use Rattle.plane.specs.Inner.Seen.{planes}
use Rattle.plain.specs.Inner.Parts.{row_to, six_of}
use Rattle.plain.proofs.sums.kernel_row.Given as goal

abbrev pub invariant-loop-j : goal.invariant-loop-j
invariant-loop-j g l =
    let p = planes g.S.Sample.value g.S.Stored.WIDE l.p in
    l.sum ≡ six_of (row_to l.kernel p.size.width p.size.height l.x l.y l.i l.j) (sample_at p.a) (sample_at p.b)

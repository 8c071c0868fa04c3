-- The kernel's rows before i are summed.
use Rattle.std.proofs.Common.{◌≡◌}
use Rattle.plane.specs.Plane.{sample_at}
use Rattle.plane.specs.Inner.Seen.{planes}
use Rattle.plain.specs.Inner.Parts.{rows_to, six_of}
use Rattle.plain.proofs.sums.moments_at.Given as goal

abbrev pub invariant-loop-i : goal.invariant-loop-i
invariant-loop-i g l =
    let p = planes g.S.Sample.value g.S.Stored.WIDE l.p in
    l.sum ≡ six_of (rows_to l.kernel p.size.width p.size.height l.x l.y l.i) (sample_at p.a) (sample_at p.b)

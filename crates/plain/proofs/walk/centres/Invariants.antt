-- The centres before x are passed.
use Rattle.std.proofs.Common.{ℕ, ◌≡◌}
use Rattle.plane.specs.Plane.{sample_at}
use Rattle.plane.specs.Inner.Seen.{planes}
use Rattle.window.specs.Moments.{moments_at}
use Rattle.ssim.specs.Score.{row_of}
use Rattle.plain.proofs.walk.centres.Given as goal

abbrev pub invariant-loop-x : goal.invariant-loop-x
invariant-loop-x g l =
    let p = planes g.S.Sample.value g.S.Stored.WIDE l.p in
    l.t ≡ row_of l.max2 (λ (k : ℕ). moments_at l.kernel p.size.width p.size.height (sample_at p.a) (sample_at p.b) k l.y) l.initial.t l.x

-- The rows before y are passed.
use Rattle.std.proofs.Common.{◌≡◌}
use Rattle.plane.specs.Inner.Seen.{planes}
use Rattle.ssim.specs.Score.{totals_in}
use Rattle.plain.proofs.walk.totals.Given as goal

abbrev pub invariant-loop-y : goal.invariant-loop-y
invariant-loop-y g l = l.t ≡ totals_in l.max2 l.kernel (planes g.S.Sample.value g.S.Stored.WIDE l.p) l.y

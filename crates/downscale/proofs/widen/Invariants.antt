-- The rows above y stand there.
use Rattle.std.proofs.Common.{◌≡◌, length}
use Rattle.plane.specs.Plane.{sample_at}
use Rattle.plane.specs.Inner.Seen.{seen}
use Rattle.downscale.specs.Inner.Longs.{Filled}
use Rattle.downscale.proofs.widen.Given as goal

abbrev pub invariant-loop-y : goal.invariant-loop-y
invariant-loop-y g l =
    (length l.longs ≡ length l.initial.longs)
    × Filled l.initial.longs l.longs l.width (sample_at (seen g.S.Sample.value l.p)) l.y

-- The rows above j stand there, and all from row j on is as it was.
use Rattle.std.proofs.Common.{◌≡◌, ◌/◌, length}
use Rattle.plane.specs.Plane.{plane_of, sample_at}
use Rattle.downscale.specs.Summed.{summed_of}
use Rattle.downscale.specs.Inner.Longs.{Filled}
use Rattle.downscale.proofs.downscale.Given as goal

abbrev pub invariant-loop-j : goal.invariant-loop-j
invariant-loop-j l =
    (length l.longs ≡ length l.initial.longs)
    × Filled l.initial.longs l.longs (l.width / 2) (summed_of (sample_at (plane_of l.initial.longs l.width))) l.j

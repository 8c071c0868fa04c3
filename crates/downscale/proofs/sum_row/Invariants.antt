-- The first c sums stand there.
use Rattle.std.proofs.Common.{◌≡◌, ◌*◌, ◌/◌, length}
use Rattle.plane.specs.Plane.{plane_of, sample_at}
use Rattle.downscale.specs.Summed.{summed_of}
use Rattle.downscale.specs.Inner.Longs.{Put}
use Rattle.downscale.proofs.sum_row.Given as goal

abbrev pub invariant-loop-c : goal.invariant-loop-c
invariant-loop-c l =
    (length l.longs ≡ length l.initial.longs)
    × Put l.initial.longs l.longs (l.j * (l.width / 2)) l.c (summed_of (sample_at (plane_of l.initial.longs l.width)) l.j)

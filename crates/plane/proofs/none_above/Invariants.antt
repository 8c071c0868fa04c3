-- `plane::none_above`: the flag is the test of the samples passed. Assumes nothing.
use Rattle.std.proofs.Common.{◌≡◌, ◌≤◌, length, map}
use Rattle.plane.specs.Plane.{at}
use Rattle.plane.specs.Tests.{none_above}
use Rattle.plane.proofs.none_above.Given as goal

abbrev pub invariant-loop-x : goal.invariant-loop-x
invariant-loop-x g l =
    let value = g.S.Sample.value in (l.x-index ≤ length l.row) × (l.ok ≡ none_above (value l.max) (at (map value l.row)) l.x-index)

-- `plane::samples_suit`: the flag is the test of the rows passed. Assumes nothing.
use Rattle.std.proofs.Common.{◌≡◌, ◌≤◌}
use Rattle.plane.specs.Plane.{all_to}
use Rattle.plane.specs.Inner.Seen.{seen}
use Rattle.plane.specs.Tests.{row_suits}
use Rattle.plane.proofs.samples_suit.Given as goal

abbrev pub invariant-loop-y : goal.invariant-loop-y
invariant-loop-y g l = (l.y ≤ l.format.height) × (l.ok ≡ all_to (row_suits l.max l.format.width (seen g.S.Sample.value l.p)) l.y)

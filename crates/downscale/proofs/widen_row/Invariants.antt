-- The first x samples stand there.
use Rattle.std.proofs.Common.{ℕ, ◌≡◌, ◌<◌, map}
use Rattle.plane.specs.Plane.{at}
use Rattle.downscale.proofs.widen_row.Given as goal

abbrev pub invariant-loop-x : goal.invariant-loop-x
invariant-loop-x g l = (k : ℕ) → k < l.x → at l.place-items k ≡ at (map g.S.Sample.value l.row) k

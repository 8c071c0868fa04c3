-- `add` gives the exact result, whose size is at most the two sizes together. Assumes nothing.
use native.Mathlib.Nat.{lt_of_le_of_lt}
use lib.IntN.{◌+ℤ◌}
use mir.Facts.{to_z-of_z}
use Rattle.lifting.proofs.Size.{size_add, fits, answer}
use Rattle.lifting.proofs.lift.add.Goals as goal

pub overflow_add-result : goal.overflow_add-result
overflow_add-result c = rw (to_z-of_z c.ranges.a, to_z-of_z c.ranges.b) (fits _ (lt_of_le_of_lt (size_add c.args.a c.args.b) c.requires))

pub returns : goal.returns
returns c = let l = size_add c.args.a c.args.b in
    rw (to_z-of_z c.ranges.a, to_z-of_z c.ranges.b) (answer (c.args.a +ℤ c.args.b) _ l (lt_of_le_of_lt l c.requires))

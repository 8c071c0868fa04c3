-- `sub` gives the exact result, whose size is at most the two sizes together. Assumes nothing.
use native.Mathlib.Nat.{lt_of_le_of_lt}
use lib.IntN.{◌-ℤ◌}
use mir.Facts.{to_z-of_z}
use Rattle.lifting.proofs.Size.{size_diff, fits, answer}
use Rattle.lifting.proofs.lift.sub.Goals as goal

pub overflow_sub-result : goal.overflow_sub-result
overflow_sub-result c = rw (to_z-of_z c.ranges.a, to_z-of_z c.ranges.b) (fits _ (lt_of_le_of_lt (size_diff c.args.a c.args.b) c.requires))

pub returns : goal.returns
returns c = let l = size_diff c.args.a c.args.b in
    rw (to_z-of_z c.ranges.a, to_z-of_z c.ranges.b) (answer (c.args.a -ℤ c.args.b) _ l (lt_of_le_of_lt l c.requires))

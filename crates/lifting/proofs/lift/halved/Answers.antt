-- `halved` gives half of its argument toward zero. Assumes nothing.
use native.Mathlib.Omega.{arith}
use native.Mathlib.Nat.{le_of_eq}
use lib.Dec.{lit<}
use mir.Facts.{to_z-of_z}
use Rattle.lifting.specs.Steps.{half}
use Rattle.lifting.proofs.Size.{size_half, size_fits, fits, answer}
use Rattle.lifting.proofs.lift.halved.Goals as goal

pub nonzero_div-result : goal.nonzero_div-result
unfolding half
nonzero_div-result c = (lit< tt, rw (to_z-of_z c.ranges.a) (fits (half c.args.a) (omega (arith, size_half c.args.a, size_fits c.args.a c.ranges.a))))

pub returns : goal.returns
unfolding half
returns c = rw (to_z-of_z c.ranges.a)
    (answer (half c.args.a) _ (le_of_eq (size_half c.args.a)) (omega (arith, size_half c.args.a, size_fits c.args.a c.ranges.a)))

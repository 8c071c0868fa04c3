-- `plane::sample_max` meets its contract. Assumes nothing.
use native.Mathlib.Omega.{arith}
use Rattle.plane.proofs.Depth.{shifted}
use Rattle.plane.proofs.sample_max.Goals as goal

pub overflow_sub-result : goal.overflow_sub-result
overflow_sub-result c = omega (arith, shifted c.args.depth c.requires)

pub returns : goal.returns
returns c = omega (arith, shifted c.args.depth c.requires)

-- `plane::stride_suits` meets its contract, which is the code. Assumes nothing.
use mathlib.Core.Path.{refl}
use Rattle.plane.specs.Limits.{stride_limit}
use Rattle.plane.specs.Tests.{stride_suits}
use Rattle.plane.proofs.stride_suits.Goals as goal

pub returns : goal.returns
unfolding stride_suits stride_limit
returns c = refl

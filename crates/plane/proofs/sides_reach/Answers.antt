-- `plane::sides_reach` meets its contract, which is the code. Assumes nothing.
use mathlib.Core.Path.{refl}
use Rattle.plane.specs.Tests.{sides_reach}
use Rattle.plane.proofs.sides_reach.Goals as goal

pub returns : goal.returns
unfolding sides_reach
returns c = refl

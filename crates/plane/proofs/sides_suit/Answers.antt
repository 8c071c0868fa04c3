-- `plane::sides_suit` meets its contract, which is the code. Assumes nothing.
use mathlib.Core.Path.{refl}
use Rattle.plane.specs.Limits.{side_limit}
use Rattle.plane.specs.Tests.{sides_suit}
use Rattle.plane.proofs.sides_suit.Goals as goal

pub returns : goal.returns
unfolding sides_suit side_limit
returns c = refl

-- `fuavelino::places::is_within` meets its contract, which is the code. Assumes nothing.
use mathlib.Core.Path.{refl}
use Rattle.fuavelino.specs.Places.{within}
use Rattle.fuavelino.proofs.places.is_within.Goals as goal

pub returns : goal.returns
unfolding within
returns c = refl

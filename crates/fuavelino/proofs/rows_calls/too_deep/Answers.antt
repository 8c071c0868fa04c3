-- `fuavelino::rows_calls::too_deep` meets its contract. Assumes nothing.
use mathlib.Core.Path.{refl}
use Rattle.plane.specs.Limits.{most_depth}
use Rattle.fuavelino.proofs.rows_calls.too_deep.Goals as goal

pub returns : goal.returns
unfolding most_depth
returns c = refl

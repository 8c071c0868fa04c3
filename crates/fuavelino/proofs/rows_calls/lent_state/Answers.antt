-- `fuavelino::rows_calls::lent_state` meets its contract. Assumes nothing.
use mathlib.Core.Path.{refl}
use mathlib.Core.Bool.{true}
use native.Mathlib.Omega.{arith}
use Rattle.plane.proofs.Depth.{depth_small}
use Rattle.fuavelino.proofs.rows_calls.lent_state.Goals as goal

pub overflow_cast-result : goal.overflow_cast-result
overflow_cast-result c = omega (arith, c.requires, depth_small true)

pub returns : goal.returns
returns c = refl

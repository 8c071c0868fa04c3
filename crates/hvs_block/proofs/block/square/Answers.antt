-- `square` is formed in 64 bits. Assumes nothing.
use mathlib.Core.Path.{ap}
use lib.Ieee.{binary64, of_int}
use Rattle.hvs_block.proofs.Sizes.{wide_fits, square_fits, square_is, square_exact}
use Rattle.hvs_block.proofs.block.square.Goals as goal

pub overflow_cast-w : goal.overflow_cast-w
overflow_cast-w c = wide_fits c.requires

pub overflow_mul-result : goal.overflow_mul-result
overflow_mul-result c = square_fits c.requires

pub int_to_float-result : goal.int_to_float-result
int_to_float-result c = square_exact c.requires

pub returns : goal.returns
returns c = ap (of_int binary64) (square_is c.requires)

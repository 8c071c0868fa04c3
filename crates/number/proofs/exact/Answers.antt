-- `number::exact` meets its contract. Assumes nothing.
use Rattle.std.proofs.Common.{◌^◌, arith, le→leb, w64}
use lib.Ieee.{in_float}
use mir.Facts.{to_z_pos}
use Rattle.number.proofs.exact.Goals as goal

pub int_to_float-result : goal.int_to_float-result
unfolding in_float
int_to_float-result c = rw (to_z_pos w64 {n = c.args.n} (omega arith)) (le→leb c.args.n (2 ^ 53) c.requires)

pub returns : goal.returns
returns c = rw (to_z_pos w64 {n = c.args.n} (omega arith))

-- `number::wide::product` meets its contract. Assumes nothing.
use Rattle.std.proofs.Common.{◌^◌}
use Rattle.number.specs.Inner.Wide.{value_of}
use Rattle.number.proofs.Words.{columns}
use Rattle.number.proofs.wide.product.Goals as goal

pub returns : goal.returns
unfolding value_of
returns c = columns (2 ^ 32) c.args.u c.args.v

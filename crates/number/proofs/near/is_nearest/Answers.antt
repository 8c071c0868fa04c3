-- `number::near::is_nearest` meets its contract. Assumes nothing.
use Rattle.number.proofs.Squares.{near_test}
use Rattle.number.proofs.near.is_nearest.Goals as goal

pub returns : goal.returns
returns c = near_test c.args.n c.args.s c.requires.0

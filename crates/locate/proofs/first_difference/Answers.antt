-- `locate::first_difference` meets its contract. Assumes nothing.
use Rattle.std.proofs.Common.{rules}
use Rattle.locate.proofs.Accept.{pair_walkable}
use Rattle.locate.proofs.first_difference.Goals as goal

pub first-requires : goal.first-requires
first-requires g c = pair_walkable _ (search rules)

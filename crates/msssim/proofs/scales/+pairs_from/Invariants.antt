-- The scales that are left.
use Rattle.std.proofs.Common.{length}
use Rattle.msssim.proofs.scales.+pairs_from.Given as goal

abbrev pub decreases-pairs_from : goal.decreases-pairs_from
decreases-pairs_from l = length l.pairs.now

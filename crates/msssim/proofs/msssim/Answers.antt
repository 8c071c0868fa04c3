-- What holds where no test refuses.
use Rattle.std.proofs.Common.{sym}
use Rattle.msssim.proofs.Accept.{sound}
use Rattle.msssim.proofs.msssim.Goals as goal

pub score-requires : goal.score-requires
score-requires g c = sound _ _ (sym c.in_ok-check.ensures)

-- What holds where no test refuses.
use Rattle.std.proofs.Common.{sym}
use Rattle.ssim.proofs.Accept.{sound}
use Rattle.ssim.proofs.score.Goals as goal

pub scored-requires : goal.scored-requires
scored-requires g c = sound _ _ _ (sym c.in_ok-check.ensures)

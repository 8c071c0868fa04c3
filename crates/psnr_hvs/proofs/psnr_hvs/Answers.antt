-- `psnr_hvs` scores planes that no test refuses. Assumes nothing.
use Rattle.std.proofs.Common.{sym}
use Rattle.plane.proofs.Accept.{accepted}
use Rattle.psnr_hvs.proofs.psnr_hvs.Goals as goal

pub score-s-requires : goal.score-s-requires
score-s-requires g c = accepted _ _ _ (sym c.in_ok-check.ensures)

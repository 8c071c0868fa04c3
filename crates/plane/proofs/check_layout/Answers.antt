-- `plane::check_layout` meets its contract: where 4 and 5 pass, the plane reaches far enough for 6. Assumes nothing.
use Rattle.std.proofs.Common.{sym}
use Rattle.plane.proofs.Unread.{lent_says}
use Rattle.plane.proofs.check_layout.Goals as goal

pub samples_suit-requires-clause-long : goal.samples_suit-requires-clause-long
samples_suit-requires-clause-long g c = lent_says _ _ (sym c.in_ok-check_lent.ensures)

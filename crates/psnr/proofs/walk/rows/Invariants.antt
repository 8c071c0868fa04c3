-- `psnr::walk::rows` meets its contract. The loop's invariant: no sample of the rows passed is above sample_max, and the sum is theirs.
-- Assumes nothing.
use Rattle.std.proofs.Common.{◌≡◌, ◌≤◌, true}
use Rattle.plane.specs.Inner.Seen.{planes}
use Rattle.psnr.specs.Squared.{error_to}
use Rattle.psnr.proofs.Walks.{suit_to}
use Rattle.psnr.proofs.walk.rows.Given as goal

abbrev pub invariant-loop-y : goal.invariant-loop-y
invariant-loop-y g l =
    let p = planes g.S.Sample.value g.S.Stored.WIDE l.p in (l.y ≤ l.p.format.height) × (l.sum ≡ error_to p l.y) × (suit_to p l.y ≡ true)

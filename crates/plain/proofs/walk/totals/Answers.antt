-- One more row is passed.
use Rattle.plain.proofs.Rows.{totals_more}
use Rattle.plain.proofs.walk.totals.Goals as goal

pub loop-y-preserved : goal.loop-y-preserved
loop-y-preserved g c = rw (c.centres-t.ensures, c.loop-y.invariant) (totals_more _ _ _ _ _ _ _)

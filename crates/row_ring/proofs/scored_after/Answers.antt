-- `row_ring::scored_after` meets its contract. Assumes nothing.
use mathlib.Core.Path.{sym}
use native.Mathlib.Omega.{arith}
use Rattle.row_ring.proofs.Rows.{scored_before, scored_last}
use Rattle.row_ring.proofs.scored_after.Goals as goal

pub returns-then-r-height : goal.returns-then-r-height
returns-then-r-height c = sym (scored_last _ _ _ (omega arith))

pub returns : goal.returns
returns c = omega (arith, scored_before c.args.r c.args.height c.args.off (omega arith))

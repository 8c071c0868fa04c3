-- One pair more stands there.
use Rattle.std.proofs.Common.{arith, ◌∙◌}
use mathlib.Core.Path.{sym, ap₂}
use Rattle.plane.proofs.All.{at_value}
use Rattle.window.proofs.Sums.Stores.{put_next}
use Rattle.row_ring.specs.Ring.{packed_of}
use Rattle.row_ring.proofs.Pairs.{pairs}
use Rattle.row_ring.proofs.store_pairs.Goals as goal

pub loop-x-preserved : goal.loop-x-preserved
loop-x-preserved g c =
    let value = g.S.Sample.value in
    let first = c.args.first.now in
    let second = c.args.second.now in
    let l = c.loop-x in
    let a = c.value.ensures ∙ sym (at_value value first l.x c.index-first-x.is (omega arith)) in
    let b = c.value-in-loop-x.ensures ∙ sym (at_value value second l.x c.index-second-x.is (omega arith)) in (
      omega arith,
      c.put.auto.s ∙ l.invariant.1,
      put_next _ _ _ _ _ (pairs value first second) _ l.invariant.2 c.put.ensures (ap₂ packed_of a b) (omega arith),
    )

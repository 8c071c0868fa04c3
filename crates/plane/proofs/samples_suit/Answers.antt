-- `plane::samples_suit` meets its contract. Assumes nothing.
use Rattle.std.proofs.Common.{arith, rules, refl, sym}
use Rattle.std.proofs.lemmas.List.{length-map}
use Rattle.plane.proofs.All.{all_none, all_more}
use Rattle.plane.proofs.Depth.{depth_says, depth_small, max_grows}
use Rattle.plane.proofs.Rows.{row_inside, row_judged}
use Rattle.plane.specs.Tests.{samples_suit}
use Rattle.plane.proofs.samples_suit.Goals as goal

pub sample_max-max-requires : goal.sample_max-max-requires
sample_max-max-requires g c = omega (arith, depth_says _ _ c.requires.depth_value, depth_small g.S.Stored.WIDE)

pub loop-y-init : goal.loop-y-init
loop-y-init g c = (search rules, sym (all_none _))

pub row-requires : goal.row-requires
row-requires g c =
    let long = rw length-map at c.requires.long in
    row_inside c.args.format.width c.args.p.stride long c.loop-y-test.true

pub row_suits-ok-requires : goal.row_suits-ok-requires
row_suits-ok-requires g c = rw c.sample_max-max.ensures (max_grows (depth_says _ _ c.requires.depth_value).1)

pub loop-y-preserved : goal.loop-y-preserved
loop-y-preserved g c =
    let long = rw length-map at c.requires.long in
    let inside = row_inside c.args.format.width c.args.p.stride long c.loop-y-test.true in
    let judged = row_judged g.S.Sample.value c.args.p.samples.now c.args.p.stride c.args.format.width c.loop-y.y inside c.sample_max-max.result in
    (search rules, rw (all_more, ← c.loop-y.invariant.1, ← judged, ← (rw c.row.ensures at c.row_suits-ok.ensures)) refl)

pub returns : goal.returns
unfolding samples_suit
returns g c = rw (← c.sample_max-max.ensures) (search rules)

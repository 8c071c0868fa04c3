-- `row_ring::take_rows` meets its contract: the rows before i are taken. Assumes nothing.
use mathlib.Core.Path.{◌≡◌, refl, sym, ◌∙◌}
use Prim.Native.Nat.{◌+◌, ◌/◌, ◌<◌}
use native.Mathlib.Nat.{le_refl}
use native.Mathlib.Omega.{arith}
use borrow.Author.Rules.{rules}
use lib.ListN.{length}
use Rattle.plane.specs.Plane.{Planes}
use Rattle.plane.specs.Inner.Seen.{planes}
use Rattle.plane.proofs.Limits.{side_small}
use Rattle.row_ring.specs.Taken.{Kept}
use Rattle.row_ring.specs.Ring.{ring_places}
use Rattle.row_ring.proofs.Rings.{slot_inside}
use Rattle.row_ring.proofs.Rows.{scored_most, scored_grows}
use Rattle.row_ring.proofs.Taken.{taken_none, taken_more}
use Rattle.row_ring.proofs.take_rows.Goals as goal

pub loop-i-init : goal.loop-i-init
loop-i-init g c = (search rules, refl, c.requires.clean, sym (taken_none _ _ _ _ _ _))

pub overflow_add-row-in-loop-i : goal.overflow_add-row-in-loop-i
overflow_add-row-in-loop-i g c = omega (arith, side_small)

pub take_row-t-requires : goal.take_row-t-requires
take_row-t-requires g c =
    let l = c.loop-i in
    let off = length c.args.by.kernel.now / 2 in
    let row = c.args.received + l.i in
    let long = c.requires.long (omega arith) in
    record {
      i_lt_height = omega (
        arith,
        c.scored_after-from.ensures,
        c.scored_after-upto.ensures,
        scored_grows row c.args.by.ring.height off (omega arith),
        scored_most (row + 1) c.args.by.ring.height off (omega arith),
      );
      long = long.0;
      long_2 = long.1;
      roomy = omega (arith, l.invariant.1);
      clean = l.invariant.2;
      kernel = c.requires.kernel;
      lent_total_value = c.requires.lent_total_value;
    }

pub overflow_step-i : goal.overflow_step-i
overflow_step-i g c = omega (arith, c.loop-i-test.true, c.requires.height_bound, side_small)

pub loop-i-preserved : goal.loop-i-preserved
loop-i-preserved g c =
    let group : Planes = planes g.S.Sample.value g.S.Stored.WIDE c.args.p in
    let before : Kept = record { places = c.args.s.now; totals = c.args.t } in
    let some-lines : 0 < c.args.by.ring.lines = omega (arith, c.requires.roomy.0, c.requires.kernel.odd) in
    let l = c.loop-i in
    let ring = c.args.by.ring in
    let r = c.take_row-t in
    let new = r.new.s in
    let kept = r.auto.s in
    let n = ring_places ring in
    let some = some-lines in
    let low = slot_inside ring.width ring.lines (c.args.received + l.i) n some (le_refl n) in (
      omega (arith, c.loop-i-test.true),
      kept ∙ l.invariant.1,
      λ j m. r.ensures.put.after j (omega (arith, low)) ∙ l.invariant.2 j m,
      taken_more c.args.by.max2 c.args.by.kernel.now ring group c.args.received before l.i l.s new l.t _ _ _ l.invariant.3
          r.ensures.put kept r.ensures.value c.scored_after-from.ensures c.scored_after-upto.ensures
          some (omega (arith, l.invariant.1, c.requires.roomy.1)),
    )

pub shape_of-s : goal.shape_of-s
shape_of-s g c = c.loop-i.invariant.1

pub returns : goal.returns
returns g c = let e : c.loop-i.i ≡ c.args.p.format.height = omega arith in
    rw e at c.loop-i.invariant.3

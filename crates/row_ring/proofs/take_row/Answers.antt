-- `row_ring::take_row` meets its contract. Assumes nothing.
use mathlib.Core.Path.{◌∙◌}
use Prim.Native.Nat.{◌+◌, ◌*◌, ◌%◌, ◌≤◌}
use native.Mathlib.Nat.{le_refl}
use native.Mathlib.Omega.{arith}
use Rattle.row_ring.specs.Ring.{ring_places}
use Rattle.row_ring.proofs.Rings.{slot_inside}
use Rattle.row_ring.proofs.take_row.Goals as goal

pub overflow_mul-to : goal.overflow_mul-to
overflow_mul-to g c =
    let slot : c.args.row % c.args.by.ring.lines * c.args.by.ring.width + c.args.by.ring.width ≤ ring_places c.args.by.ring = slot_inside c.args.by.ring.width c.args.by.ring.lines c.args.row (ring_places c.args.by.ring) (omega arith) (le_refl _) in
    omega (arith, slot)

pub store_row-requires : goal.store_row-requires
store_row-requires g c =
    let slot : c.args.row % c.args.by.ring.lines * c.args.by.ring.width + c.args.by.ring.width ≤ ring_places c.args.by.ring = slot_inside c.args.by.ring.width c.args.by.ring.lines c.args.row (ring_places c.args.by.ring) (omega arith) (le_refl _) in
    record {
      i_lt_height = omega (arith, slot);
      long = c.requires.long;
      long_2 = c.requires.long_2;
    }

pub score_rows-requires : goal.score_rows-requires
score_rows-requires g c =
    let slot : c.args.row % c.args.by.ring.lines * c.args.by.ring.width + c.args.by.ring.width ≤ ring_places c.args.by.ring = slot_inside c.args.by.ring.width c.args.by.ring.lines c.args.row (ring_places c.args.by.ring) (omega arith) (le_refl _) in
    let r = c.store_row in
    record {
      from_le_upto = omega arith;
      roomy = omega (arith, r.auto.s);
      clean = λ j l. r.ensures.after j (omega (arith, slot)) ∙ c.requires.clean j l;
      kernel = c.requires.kernel;
      lent_total_value = c.requires.lent_total_value;
    }

pub returns : goal.returns
returns g c =
    let r = c.score_rows in
    let e = c.requires.i_lt_height.1 in
    record {
      value = rw r.ensures.s_unchanged r.ensures.value;
      put = rw r.ensures.s_unchanged (rw e at c.store_row.ensures);
    }

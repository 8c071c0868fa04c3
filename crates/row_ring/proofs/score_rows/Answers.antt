-- `row_ring::score_rows` meets its contract. Assumes nothing.
use mathlib.Core.Path.{◌≡◌, refl, sym, ap, ◌∙◌}
use native.Mathlib.Omega.{arith}
use lib.ListN.{length}
use Rattle.row_ring.specs.Ring.{ring_a, ring_b}
use Rattle.row_ring.proofs.Rows.{rows_none, rows_more}
use Rattle.row_ring.proofs.score_rows.Goals as goal

pub loop-y-init : goal.loop-y-init
loop-y-init c = (omega arith, omega arith, refl, sym (rows_none _ _ _ _ _ _ _ _ _ (omega arith)))

pub score_row-t-requires : goal.score_row-t-requires
score_row-t-requires c =
    let l = c.loop-y in
    let e = ap length l.invariant.2 in
    record {
      y_lt_height = omega arith;
      roomy = omega (arith, e);
      clean = rw l.invariant.2 c.requires.clean;
      kernel = c.requires.kernel;
      lent_total_value = c.requires.lent_total_value;
    }

pub loop-y-preserved : goal.loop-y-preserved
loop-y-preserved c = let l = c.loop-y in
    let r = c.args.by.ring in
    let score = c.score_row-t in (
      omega arith,
      omega arith,
      score.ensures.s_unchanged ∙ l.invariant.2,
      rw (score.ensures.value, l.invariant.2, l.invariant.3)
          (sym (rows_more c.args.by.max2 c.args.by.kernel.now r.width r.height (ring_a c.args.s.now r.width r.lines)
          (ring_b c.args.s.now r.width r.lines) c.args.t c.args.from l.y (omega arith))),
    )

pub shape_of-s : goal.shape_of-s
shape_of-s c = ap length c.loop-y.invariant.2

pub returns : goal.returns
returns c =
    let e : c.loop-y.y ≡ c.args.upto = omega arith in
    record {
      value = rw e at c.loop-y.invariant.3;
      s_unchanged = c.loop-y.invariant.2;
    }

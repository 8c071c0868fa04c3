-- `row_ring::fill` meets its contract: the columns before x stand there, and the ring is as it was. Assumes nothing.
use mathlib.Core.Path.{◌≡◌, refl, ◌∙◌}
use native.Mathlib.Omega.{arith}
use borrow.Author.Rules.{rules}
use Rattle.window.proofs.Sums.Column.{column_fits}
use Rattle.window.proofs.Sums.Stores.{put_none, put_column}
use Rattle.row_ring.specs.Ring.{ring_a, ring_b}
use Rattle.row_ring.proofs.Rings.{ring_small_a, ring_small_b}
use Rattle.row_ring.proofs.Scored.{column_still}
use Rattle.row_ring.proofs.fill.Goals as goal

pub loop-x-init : goal.loop-x-init
loop-x-init c = (search rules, refl, put_none _ _ _)

pub column-t-requires : goal.column-t-requires
column-t-requires c =
    record {
      x_lt_width = omega arith;
      kernel_len_bound = (omega arith, omega arith);
      kernel = c.requires.kernel;
    }

pub put-requires : goal.put-requires
put-requires c =
    let l = c.loop-x in
    let r = c.args.ring in
    record {
      at_in_bounds = omega arith;
      fits = column_fits c.args.kernel.now r.height (ring_a l.s r.width r.lines) (ring_b l.s r.width r.lines) l.x c.args.y _
          c.column-t.ensures c.requires.kernel
          (λ i m. ring_small_a l.s r.width r.lines i l.x) (λ i m. ring_small_b l.s r.width r.lines i l.x);
    }

pub loop-x-preserved : goal.loop-x-preserved
loop-x-preserved c = let l = c.loop-x in
    let r = c.args.ring in
    let old = c.args.s.now in
    let put = c.put in (
      omega arith,
      put.auto.cols ∙ l.invariant.1,
      put_column c.args.kernel.now r.height (ring_a old r.width r.lines) (ring_b old r.width r.lines) c.args.y l.x old l.s _
          c.args.to _ l.invariant.2 put.ensures
          (c.column-t.ensures
          ∙ column_still old l.s r.width r.lines c.args.to (omega arith) (omega arith) l.invariant.2.before c.args.kernel.now r.height l.x
          c.args.y (omega arith))
          (omega arith),
    )

pub shape_of-s : goal.shape_of-s
shape_of-s c = c.loop-x.invariant.1

pub returns : goal.returns
returns c = let e : c.loop-x.x ≡ c.args.ring.width = omega arith in
    rw e at c.loop-x.invariant.2

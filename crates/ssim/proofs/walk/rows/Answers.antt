-- `ssim::walk::rows` meets its contract: the rows above y are scored, and the margins are zero. Assumes nothing.
use mathlib.Core.Path.{◌≡◌, ◌∙◌}
use mathlib.Core.List.{List}
use Prim.Native.Nat.{ℕ, ◌+◌, ◌≤◌, ◌-◌, ◌*◌, ◌/◌}
use native.Mathlib.Omega.{arith}
use borrow.Author.Rules.{rules}
use borrow.Rule.Slice.PartMut.{mid_of, same_len_mid}
use lib.IntN.{ℤ}
use lib.ListN.{length}
use Rattle.plane.specs.Plane.{sample_at}
use Rattle.window.specs.Inner.Columns.{OnGrid, on_grid}
use Rattle.window.proofs.Sums.Windows.{weight_le}
use Rattle.window.proofs.Sums.Held.{part_length, all_sums, margins_kept}
use Rattle.ssim.proofs.Same.{totals_more}
use Rattle.ssim.proofs.walk.rows.Goals as goal

pub centres-t-requires : goal.centres-t-requires
centres-t-requires g c =
    let both : OnGrid = on_grid g.S.Sample.value c.args.p in
    let start : ℕ = 5 * (length c.args.kernel.now / 2) in
    let count : ℕ = start + 5 * c.args.p.format.width - start in
    let old : List ℤ = c.loop-y.cols in
    let filled : List ℤ = c.fill.new.cols in
    let room : start + count ≤ length old = omega arith in
    let kept : length filled ≡ length (mid_of start count old) = c.fill.auto.cols in
    let same : length filled ≡ count = kept ∙ part_length start count old room in
    let small = c.requires.summable (omega arith) in
    record {
      width_le_side_limit = omega (arith, same_len_mid start count old filled kept, weight_le c.args.kernel.now c.args.p.format.height c.loop-y.y c.requires.kernel);
      kernel = c.requires.kernel;
      total_value = c.requires.total_value;
      column_sums = all_sums old filled count c.args.kernel.now c.args.p.format.width c.args.p.format.height (sample_at both.a) (sample_at both.b)
          c.loop-y.y c.fill.ensures c.loop-y.invariant.2 (omega arith) (omega arith) same c.requires.kernel small.first.small small.second.small;
    }

pub loop-y-preserved : goal.loop-y-preserved
loop-y-preserved g c =
    let both : OnGrid = on_grid g.S.Sample.value c.args.p in
    let start : ℕ = 5 * (length c.args.kernel.now / 2) in
    let count : ℕ = start + 5 * c.args.p.format.width - start in
    let old : List ℤ = c.loop-y.cols in
    let filled : List ℤ = c.fill.new.cols in
    let room : start + count ≤ length old = omega arith in
    let kept : length filled ≡ length (mid_of start count old) = c.fill.auto.cols in
    let same : length filled ≡ count = kept ∙ part_length start count old room in (
      search rules,
      same_len_mid start count old filled kept ∙ c.loop-y.invariant.1,
      margins_kept old filled count c.args.kernel.now c.args.p.format.width c.args.p.format.height (sample_at both.a) (sample_at both.b)
          c.loop-y.y c.fill.ensures c.loop-y.invariant.2 (omega arith) (omega arith) same,
      rw (c.centres-t.ensures, c.weight-down.ensures, c.loop-y.invariant.3)
          (totals_more c.args.max2 c.args.kernel.now c.args.p.format.width c.args.p.format.height (sample_at both.a) (sample_at both.b)
          old filled count c.loop-y.y c.fill.ensures c.loop-y.invariant.2 (omega arith) (omega arith) same),
    )

-- `along_row` adds the blocks of a row. Assumes nothing.
use borrow.Author.Rules.{rules}
use mathlib.Core.Path.{◌≡◌, sym}
use native.Mathlib.Omega.{arith}
use Rattle.psnr_hvs.specs.Score.{along_row, blocks_per_side}
use Rattle.psnr_hvs.proofs.Blocks.{ends, row_more}
use Rattle.number.proofs.Folds.{fold_none}
use Rattle.psnr_hvs.proofs.along_row.Goals as goal

pub loop-x-init : goal.loop-x-init
unfolding along_row
loop-x-init g c = (search rules, sym (fold_none _ _))

pub block_at-s-requires : goal.block_at-s-requires
block_at-s-requires g c =
    let n = c.blocks_per_side-n.ensures in
    record {
      block_fits = record { across = ends c.requires.block_side_le_width.0 (omega arith); down = c.requires.block_side_le_width.1 };
      bounded_pair = c.requires.bounded_pair;
    }

pub loop-x-preserved : goal.loop-x-preserved
loop-x-preserved g c = (search rules, rw (row_more, c.block_at-s.ensures, c.loop-x.invariant.1))

pub returns : goal.returns
returns g c = let e : c.loop-x.x ≡ blocks_per_side c.args.p.format.width = omega (arith, c.blocks_per_side-n.ensures) in
    rw e at c.loop-x.invariant.1

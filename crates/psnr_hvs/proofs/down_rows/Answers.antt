-- `down_rows` adds the rows of blocks. Assumes nothing.
use borrow.Author.Rules.{rules}
use mathlib.Core.Path.{◌≡◌, sym}
use native.Mathlib.Omega.{arith}
use Rattle.psnr_hvs.specs.Score.{down_rows, blocks_per_side}
use Rattle.number.proofs.Folds.{fold_none}
use Rattle.psnr_hvs.proofs.Blocks.{ends, rows_more}
use Rattle.psnr_hvs.proofs.down_rows.Goals as goal

pub loop-y-init : goal.loop-y-init
unfolding down_rows
loop-y-init g c = (search rules, sym (fold_none _ _))

pub along_row-s-requires : goal.along_row-s-requires
along_row-s-requires g c =
    let n = c.blocks_per_side-n.ensures in
    record {
      block_side_le_width = (c.requires.block_side_le_width.0, ends c.requires.block_side_le_width.1 (omega arith));
      bounded_pair = c.requires.bounded_pair;
    }

pub loop-y-preserved : goal.loop-y-preserved
loop-y-preserved g c = (search rules, rw (rows_more, c.along_row-s.ensures, c.loop-y.invariant.1))

pub returns : goal.returns
returns g c = let e : c.loop-y.y ≡ blocks_per_side c.args.p.format.height = omega (arith, c.blocks_per_side-n.ensures) in
    rw e at c.loop-y.invariant.1

-- After eight turns every row is written.
use native.Mathlib.Omega.{arith}
use Rattle.dct.proofs.Blocks.{rows_all}
use Rattle.dct.specs.Block.{fdct8, column, fdct8_columns}
use Rattle.dct.proofs.block.fdct8_columns_into.Goals as goal

pub returns : goal.returns
unfolding fdct8_columns
returns c = rows_all (λ k. fdct8 (column k c.args.x.now)) c.loop-i.i c.loop-i.out c.args.out.now c.loop-i.invariant.2 (omega arith) (omega arith) c.requires.out_len

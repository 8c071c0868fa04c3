-- After eight turns every row is written.
use native.Mathlib.Omega.{arith}
use Rattle.dct.proofs.Blocks.{rows_all}
use Rattle.dct.specs.Block.{idct8, row}
use Rattle.dct.proofs.block.idct8_each_row.Goals as goal

pub returns : goal.returns
returns c = rows_all (λ k. idct8 (row k c.args.x.now)) c.loop-i.i c.loop-i.out c.args.out.now c.loop-i.invariant.2 (omega arith) (omega arith) c.requires.out_len

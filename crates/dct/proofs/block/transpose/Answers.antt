-- After eight turns every row is written.
use native.Mathlib.Omega.{arith}
use Rattle.dct.proofs.Blocks.{rows_all}
use Rattle.dct.specs.Block.{column, transposed}
use Rattle.dct.proofs.block.transpose.Goals as goal

pub returns : goal.returns
unfolding transposed
returns c = rows_all (λ k. column k c.args.x.now) c.loop-i.i c.loop-i.out c.args.out.now c.loop-i.invariant.2 (omega arith) (omega arith) c.requires.out_len

-- `mask_for` goes by what the root answers. Assumes nothing.
use lib.Ieee.{of_bits}
use Rattle.hvs_block.specs.Block.{mask_for}
use Rattle.hvs_block.proofs.block.mask_for.Goals as goal

pub returns : goal.returns
unfolding mask_for of_bits
returns c = rw (c.unwrap_or.ensures, c.root.ensures)

-- `masks` is the masks of each row. Assumes nothing.
use Rattle.std.proofs.Common.{[]}
use Rattle.hvs_block.specs.Tables.{mask_row, masks_of}
use Rattle.hvs_block.proofs.Mapped.{mapped}
use Rattle.hvs_block.proofs.tables.masks.Goals as goal

pub returns : goal.returns
unfolding masks_of
returns c = mapped mask_row [] [] c.map.ensures.items (λ p q x y k. k.met)

-- `mask_row` is the mask of each contrast. Assumes nothing.
use Rattle.std.specs.Float.{nan}
use Rattle.hvs_block.specs.Tables.{mask_of}
use Rattle.hvs_block.proofs.Mapped.{mapped}
use Rattle.hvs_block.proofs.tables.mask_row.Goals as goal

pub returns : goal.returns
returns c = mapped mask_of nan nan c.map.ensures.items (λ p q x y k. k.met)

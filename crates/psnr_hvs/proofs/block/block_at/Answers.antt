-- `block_at` loads two blocks and takes them in. Assumes nothing.
use Rattle.psnr_hvs.proofs.Blocks.{block_length, block_samples, block_bounded}
use Rattle.psnr_hvs.proofs.block.block_at.Goals as goal

pub loaded-p1-requires-clause-bounded : goal.loaded-p1-requires-clause-bounded
loaded-p1-requires-clause-bounded g c = block_bounded c.requires.bounded_pair.first c.requires.block_fits

pub loaded-p2-requires-clause-bounded : goal.loaded-p2-requires-clause-bounded
loaded-p2-requires-clause-bounded g c = block_bounded c.requires.bounded_pair.second c.requires.block_fits

pub with_block-requires : goal.with_block-requires
with_block-requires g c =
    let one = c.loaded-p1.ensures in
    let two = c.loaded-p2.ensures in
    record {
      p1_len = (rw one (block_length _ _ _), rw two (block_length _ _ _));
      samples = rw one (block_samples _ _ _ _ c.requires.bounded_pair.first c.requires.block_fits);
      samples_2 = rw two (block_samples _ _ _ _ c.requires.bounded_pair.second c.requires.block_fits);
    }

pub returns : goal.returns
returns g c = rw (c.with_block.ensures, c.loaded-p2.ensures, c.loaded-p1.ensures)

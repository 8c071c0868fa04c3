-- `with_block` is the definition's steps. Assumes nothing.
use mathlib.Core.Path.{◌≡◌}
use mathlib.Core.List.{List}
use lib.IntN.{ℤ}
use lib.ListN.{length}
use Rattle.lifting.specs.Inner.Within.{AllWithin}
use Rattle.dct.specs.Block.{fdct8x8}
use Rattle.dct.specs.Limits.{block_size}
use Rattle.dct.specs.Inner.Coefficients.{coefficient_limit}
use Rattle.dct.proofs.Round.{length_fdct8x8}
use Rattle.dct.proofs.Bound.{coefficient_bound}
use Rattle.hvs_block.specs.Block.{with_block}
use Rattle.hvs_block.specs.Inner.Levels.{Samples}
use Rattle.hvs_block.proofs.Numbers.{samples_within}
use Rattle.hvs_block.proofs.block.with_block.Goals as goal

-- the coefficients d of a block p of samples
places : (p d : List ℤ) → d ≡ fdct8x8 p → length d ≡ block_size
places p d e = rw e (length_fdct8x8 p)

sizes : (p d : List ℤ) → Samples p → d ≡ fdct8x8 p → AllWithin coefficient_limit d
sizes p d h e = rw e (coefficient_bound p (samples_within p h))

pub fdct8x8-d1-requires-clause-all_within : goal.fdct8x8-d1-requires-clause-all_within
fdct8x8-d1-requires-clause-all_within c = samples_within c.args.p1.now c.requires.samples

pub fdct8x8-d2-requires-clause-all_within : goal.fdct8x8-d2-requires-clause-all_within
fdct8x8-d2-requires-clause-all_within c = samples_within c.args.p2.now c.requires.samples_2

pub mask_of_both-m-requires-clause-d1_len : goal.mask_of_both-m-requires-clause-d1_len
mask_of_both-m-requires-clause-d1_len c = (places _ _ c.fdct8x8-d1.ensures, places _ _ c.fdct8x8-d2.ensures)

pub mask_of_both-m-requires-clause-all_within : goal.mask_of_both-m-requires-clause-all_within
mask_of_both-m-requires-clause-all_within c = sizes c.args.p1.now _ c.requires.samples c.fdct8x8-d1.ensures

pub mask_of_both-m-requires-clause-all_within_2 : goal.mask_of_both-m-requires-clause-all_within_2
mask_of_both-m-requires-clause-all_within_2 c = sizes c.args.p2.now _ c.requires.samples_2 c.fdct8x8-d2.ensures

pub errors-requires-clause-d1_len : goal.errors-requires-clause-d1_len
errors-requires-clause-d1_len c = (places _ _ c.fdct8x8-d1.ensures, places _ _ c.fdct8x8-d2.ensures)

pub errors-requires-clause-all_within : goal.errors-requires-clause-all_within
errors-requires-clause-all_within c = sizes c.args.p1.now _ c.requires.samples c.fdct8x8-d1.ensures

pub errors-requires-clause-all_within_2 : goal.errors-requires-clause-all_within_2
errors-requires-clause-all_within_2 c = sizes c.args.p2.now _ c.requires.samples_2 c.fdct8x8-d2.ensures

pub returns : goal.returns
unfolding with_block
returns c = rw (c.errors.ensures, c.mask_of_both-m.ensures, c.fdct8x8-d2.ensures, c.fdct8x8-d1.ensures)

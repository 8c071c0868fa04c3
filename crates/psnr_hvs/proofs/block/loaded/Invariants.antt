-- `loaded` fills a block, sample by sample. Assumes nothing.
use mathlib.Core.Path.{◌≡◌}
use Prim.Native.Nat.{◌≤◌}
use lib.ListN.{length}
use Rattle.plane.specs.Inner.Seen.{seen}
use Rattle.psnr_hvs.specs.Score.{sample_in}
use Rattle.number.proofs.Lists.{Filled}
use Rattle.psnr_hvs.proofs.block.loaded.Given as goal

abbrev pub invariant-loop-k : goal.invariant-loop-k
invariant-loop-k g l =
    (l.k ≤ 64) × (length l.place-items ≡ 64) × Filled (sample_in (seen g.S.Sample.value l.p) l.x l.y) l.place-items l.k

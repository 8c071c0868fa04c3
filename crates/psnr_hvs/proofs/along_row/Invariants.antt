-- `along_row` adds the blocks of a row. Assumes nothing.
use mathlib.Core.Path.{◌≡◌}
use Prim.Native.Nat.{◌≤◌}
use Rattle.psnr_hvs.specs.Score.{along_row}
use Rattle.plane.specs.Inner.Seen.{planes}
use Rattle.psnr_hvs.proofs.along_row.Given as goal

abbrev pub invariant-loop-x : goal.invariant-loop-x
invariant-loop-x g l = (l.x ≤ l.n) × (l.s ≡ along_row (planes g.S.Sample.value g.S.Stored.WIDE l.p) l.y l.tables.csf l.tables.mask l.so_far l.x)

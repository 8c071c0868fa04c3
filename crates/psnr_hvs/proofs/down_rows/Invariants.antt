-- `down_rows` adds the rows of blocks. Assumes nothing.
use mathlib.Core.Path.{◌≡◌}
use Prim.Native.Nat.{◌≤◌}
use Rattle.plane.specs.Inner.Seen.{planes}
use Rattle.psnr_hvs.specs.Score.{down_rows}
use Rattle.psnr_hvs.proofs.down_rows.Given as goal

abbrev pub invariant-loop-y : goal.invariant-loop-y
invariant-loop-y g l = (l.y ≤ l.n) × (l.s ≡ down_rows (planes g.S.Sample.value g.S.Stored.WIDE l.p) l.tables.csf l.tables.mask l.y)

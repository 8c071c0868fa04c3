-- `locate::map::tile` meets its contract. The loop's invariant: the sum is that of the rows passed, and no larger than so many of the
-- largest. Assumes nothing.
use Rattle.std.proofs.Common.{◌≡◌, ◌*◌, ◌≤◌}
use Rattle.plane.specs.Inner.Seen.{planes}
use Rattle.locate.specs.Map.{tile_error_to}
use Rattle.locate.specs.Inner.Walk.{piece_most}
use Rattle.locate.proofs.map.tile.Given as goal

abbrev pub invariant-loop-k : goal.invariant-loop-k
invariant-loop-k g l = (l.sum ≡ tile_error_to (planes g.S.Sample.value g.S.Stored.WIDE l.p) l.j l.i l.k) × (l.sum ≤ l.k * piece_most)

-- `locate::map::tile_row` meets its contract. The loop's invariant: the places passed have the errors of their tiles. Assumes nothing.
use Rattle.number.proofs.Lists.{Filled}
use Rattle.plane.specs.Inner.Seen.{planes}
use Rattle.locate.specs.Map.{tile_error}
use Rattle.locate.proofs.map.tile_row.Given as goal

abbrev pub invariant-loop-i : goal.invariant-loop-i
invariant-loop-i g l = Filled (tile_error (planes g.S.Sample.value g.S.Stored.WIDE l.p) l.j) l.row l.i

-- `locate::map::fill` meets its contract: a row of tiles more is put behind those that stand in the map. Assumes nothing.
use Rattle.std.proofs.Common.{◌+◌, ◌*◌, ◌<◌, ◌≤◌, length, arith, rules}
use Rattle.plane.specs.Inner.Seen.{planes}
use Rattle.locate.specs.Map.{tiles_along}
use Rattle.locate.proofs.Rows.{map_more, row_room}
use Rattle.locate.proofs.map.fill.Goals as goal

pub loop-j-preserved : goal.loop-j-preserved
loop-j-preserved g c =
    let l = c.loop-j in
    let f = c.args.p.format in
    let n = c.tiles_along-across.result in
    let less : l.j < tiles_along f.height = omega arith in
    let room : l.j * n + n ≤ length l.map =
    rw (l.invariant.1, c.requires.map_len, c.tiles_along-across.ensures) (row_room l.j (tiles_along f.width) _ less) in (
      search rules,
      search rules,
      map_more (planes g.S.Sample.value g.S.Stored.WIDE c.args.p) l.j n l.map _ c.tiles_along-across.ensures room l.invariant.2 c.tile_row.ensures,
    )

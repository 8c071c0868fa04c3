-- `locate::map::piece_at` meets its contract. Assumes nothing.
use Rattle.std.proofs.Common.{◌∙◌, arith}
use Rattle.locate.proofs.Places.{first_inside, second_inside}
use Rattle.locate.proofs.Sums.{piece_is}
use Rattle.locate.proofs.map.piece_at.Goals as goal

pub row-row_a-requires : goal.row-row_a-requires
row-row_a-requires g c = first_inside g.S.Sample.value g.S.Stored.WIDE c.args.p c.requires.walkable c.args.y c.requires.y_lt_height.0

pub row-row_b-requires : goal.row-row_b-requires
row-row_b-requires g c = second_inside g.S.Sample.value g.S.Stored.WIDE c.args.p c.requires.walkable c.args.y c.requires.y_lt_height.0

pub returns-then-n-eq-TILE_SIDE : goal.returns-then-n-eq-TILE_SIDE
returns-then-n-eq-TILE_SIDE g c =
    let l = c.requires.y_lt_height in
    let e = c.if-n-eq-TILE_SIDE.true in
    let is = piece_is g.S.Sample.value g.S.Stored.WIDE c.args.p c.requires.walkable c.args.y l.0 c.row-row_a.ensures c.row-row_b.ensures c.args.x 8 (omega (arith, e, l.1)) in
    (rw e (c.piece.ensures.0 ∙ is), c.piece.ensures.1)

pub returns-else-n-eq-TILE_SIDE : goal.returns-else-n-eq-TILE_SIDE
returns-else-n-eq-TILE_SIDE g c =
    let l = c.requires.y_lt_height in
    let is = piece_is g.S.Sample.value g.S.Stored.WIDE c.args.p c.requires.walkable c.args.y l.0 c.row-row_a.ensures c.row-row_b.ensures c.args.x c.args.n l.1 in
    (c.piece-else-n-eq-TILE_SIDE.ensures.0 ∙ is, c.piece-else-n-eq-TILE_SIDE.ensures.1)

-- `locate::map::tile` meets its contract: its rows and columns lie inside both planes, and the sum has room. Assumes nothing.
use Rattle.std.proofs.Common.{arith}
use native.Mathlib.Nat.{le_of_lt}
use Rattle.plane.proofs.Limits.{side_small}
use Rattle.locate.specs.Map.{tile_side}
use Rattle.locate.proofs.Sides.{begins, ends, length_most}
use Rattle.locate.proofs.map.tile.Goals as goal

pub tile_length-columns-requires : goal.tile_length-columns-requires
tile_length-columns-requires g c = le_of_lt (begins _ _ c.requires.j_bound.1)

pub tile_length-k-end-requires : goal.tile_length-k-end-requires
tile_length-k-end-requires g c = le_of_lt (begins _ _ c.requires.j_bound.0)

pub overflow_mul-j : goal.overflow_mul-j
unfolding tile_side
overflow_mul-j g c = omega (arith, begins _ _ c.requires.j_bound.0, side_small)

pub overflow_add-j : goal.overflow_add-j
unfolding tile_side
overflow_add-j g c = omega (arith, begins _ _ c.requires.j_bound.0, length_most c.args.p.format.height c.args.j, side_small)

pub overflow_mul-i : goal.overflow_mul-i
unfolding tile_side
overflow_mul-i g c = omega (arith, begins _ _ c.requires.j_bound.1, side_small)

pub piece_at-sum-requires-clause-y_lt_height : goal.piece_at-sum-requires-clause-y_lt_height
unfolding tile_side
piece_at-sum-requires-clause-y_lt_height g c =
    let row = ends _ _ (le_of_lt (begins _ _ c.requires.j_bound.0)) in
    let column = ends _ _ (le_of_lt (begins _ _ c.requires.j_bound.1)) in
    (omega (arith, row), omega (arith, column), omega (arith, length_most c.args.p.format.width c.args.i))

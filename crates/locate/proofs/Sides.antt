-- Tiles along a side: each lies inside it, and there are few. Assumes nothing.
use Prim.Native.Nat.{ℕ, ◌+◌, ◌*◌, ◌≤◌, ◌<◌}
use native.Mathlib.Omega.{arith}
use Rattle.locate.specs.Map.{tile_side, tiles_along, tile_length}

-- a tile begins inside its side, and ends inside it
pub begins : (side k : ℕ) → k < tiles_along side → k * tile_side < side
unfolding tiles_along tile_side
begins side k l = omega (arith, l)

pub ends : (side k : ℕ) → k * tile_side ≤ side → k * tile_side + tile_length side k ≤ side
unfolding tile_length tile_side
ends side k l = omega arith

pub length_most : (side k : ℕ) → tile_length side k ≤ tile_side
unfolding tile_length tile_side
length_most side k = omega arith

-- no more tiles than samples
pub along_most : (side : ℕ) → tiles_along side ≤ side
unfolding tiles_along tile_side
along_most side = omega arith

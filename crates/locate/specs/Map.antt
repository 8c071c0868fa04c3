-- SCOPE, "Where planes differ": the squared error of each tile, and the map of them. Definitions only.
use Rattle.std.specs.Prelude.{Bool, List, [], ◌∷◌, ◌++◌, ℕ, zero, suc, min, ◌+◌, ◌-◌, ◌*◌, ◌/◌, leb, length, drop, Result, Ok}
use Rattle.refusal.specs.declared.Refusal.{Refusal}
use Rattle.refusal.specs.declared.Refusal.TheVariants as no
use Rattle.refusal.specs.First.{Verdict, first_broken, by_refusal, unless_refused}
use Rattle.number.specs.Steps.{list_to}
use Rattle.plane.specs.Plane.{Planes, sample_at}
use Rattle.plane.specs.Sums.{sum_to}
use Rattle.plane.specs.Tests.{pair_tests}
use Rattle.psnr.specs.Squared.{square_of}
use Rattle.locate.specs.declared.Tiles.{Tiles}

-- the side of a tile
unfoldable pub tile_side : ℕ
tile_side = 8

-- how many tiles lie along a side: the last may be smaller
unfoldable pub tiles_along : ℕ → ℕ
tiles_along side = (side + (tile_side - 1)) / tile_side

-- how many tiles there are
abbrev pub tiles_of : ℕ → ℕ → ℕ
tiles_of width height = tiles_along height * tiles_along width

-- how many of a side's samples lie in tile k
unfoldable pub tile_length : ℕ → ℕ → ℕ
tile_length side k = min tile_side (side - k * tile_side)

-- the sum of (a - b)² over the n samples of row y from column x on
unfoldable pub piece_error : Planes → ℕ → ℕ → ℕ → ℕ
piece_error p x n y = sum_to (λ (k : ℕ). square_of (sample_at p.a y (x + k)) (sample_at p.b y (x + k))) n

-- and over the first n rows of the tile in row j and column i of tiles
unfoldable pub tile_error_to : Planes → ℕ → ℕ → ℕ → ℕ
tile_error_to p j i n = sum_to (λ (k : ℕ). piece_error p (i * tile_side) (tile_length p.size.width i) (j * tile_side + k)) n

-- the squared error of that tile
abbrev pub tile_error : Planes → ℕ → ℕ → ℕ
tile_error p j i = tile_error_to p j i (tile_length p.size.height j)

-- the tiles across and down two planes
abbrev pub across_of : Planes → ℕ
across_of p = tiles_along p.size.width

abbrev pub down_of : Planes → ℕ
down_of p = tiles_along p.size.height

-- the errors of the first n rows of tiles, row by row
unfoldable pub map_to : Planes → ℕ → List ℕ
map_to p zero = []
map_to p (suc n) = map_to p n ++ list_to (tile_error p n) (across_of p)

-- and of all of them
abbrev pub map_of : Planes → List ℕ
map_of p = map_to p (down_of p)

-- how many places that takes
abbrev pub map_places : Planes → ℕ
map_places p = tiles_of p.size.width p.size.height

-- 1 2 4 5 6, then 8 where so many places are too few
abbrev pub map_tests : Planes → ℕ → List (Refusal × Bool)
map_tests p places = pair_tests p 0 ++ ((no.Scratch, leb (map_places p) places) ∷ [])

abbrev pub map_refusal : Planes → ℕ → Verdict
map_refusal p places = first_broken (map_tests p places)

-- the answer to a call that lends these places
unfoldable pub mapped_of : Planes → List ℕ → Result Tiles Refusal
mapped_of p old = unless_refused (map_refusal p (length old)) (Ok (record { across = across_of p; down = down_of p }))

-- what stands in them afterwards: the map, and what stood past it; where the call refuses, what stood there
unfoldable pub map_after : Planes → List ℕ → List ℕ
map_after p old = by_refusal (map_refusal p (length old)) (map_of p ++ drop (map_places p) old) old

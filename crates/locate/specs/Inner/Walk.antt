-- What the leaves of the two walks promise each other. Definitions only.
use Rattle.std.specs.Prelude.{Bool, List, ℕ, ◌*◌, eqb}
use Rattle.plane.specs.Plane.{at, all_to}
use Rattle.psnr.specs.Inner.Walk.{word_most}
use Rattle.locate.specs.Map.{tile_side}

-- the first n samples of two rows agree
unfoldable pub alike_to : List ℕ → List ℕ → ℕ → Bool
alike_to a b n = all_to (λ (x : ℕ). eqb (at a x) (at b x)) n

-- the largest squared error of one row of a tile
abbrev pub piece_most : ℕ
piece_most = tile_side * (word_most * word_most)

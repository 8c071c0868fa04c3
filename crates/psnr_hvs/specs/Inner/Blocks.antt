-- What the functions that walk the blocks of a plane ask of each other. Definitions only.
use Rattle.std.specs.Prelude.{ℕ, ◌+◌, ◌≤◌}
use Rattle.plane.specs.Plane.{Size}
use Rattle.dct.specs.Limits.{block_side}

-- the block whose first sample is (x, y) ends inside its plane
pub record BlockFits (size : Size) (x y : ℕ) : Type 0 where
  pub across : x + block_side ≤ size.width
  pub down : y + block_side ≤ size.height

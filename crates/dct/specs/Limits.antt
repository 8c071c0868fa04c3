-- SCOPE, "The transform": what the two calls take. Definitions only.
use Rattle.std.specs.Prelude.{ℕ}

-- the side of a block, and its places, row by row
abbrev pub block_side : ℕ
block_side = 8

abbrev pub block_size : ℕ
block_size = 64

-- forward takes -8,191 to 8,191
abbrev pub forward_limit : ℕ
forward_limit = 8191

-- inverse takes -2,097,151 to 2,097,151
abbrev pub inverse_limit : ℕ
inverse_limit = 2097151

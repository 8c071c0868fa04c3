-- SCOPE, "What a plane may be" and "When the desk says no": the limits, each number once, under a name. Samples are bytes, or
-- words of 16 bits: `wide` is true of words. Definitions only.
use Rattle.std.specs.Prelude.{Bool, true, false, ℕ}

-- the largest width and the largest height
unfoldable pub side_limit : ℕ
side_limit = 16384

-- the largest stride
unfoldable pub stride_limit : ℕ
stride_limit = 32768

-- the least depth that a sample width carries: bytes go from 1 to 8, words from 9 to 12
unfoldable pub least_depth : Bool → ℕ
least_depth false = 1
least_depth true = 9

-- the same: the largest depth
unfoldable pub most_depth : Bool → ℕ
most_depth false = 8
most_depth true = 12

-- SCOPE, "When the desk says no": the limits of records and of a series, each number once, under a name. Definitions only.
use Rattle.std.specs.Prelude.{ℕ}
use Rattle.number.specs.Limits.{exact_limit}

-- the largest n of a record
unfoldable pub count_limit : ℕ
count_limit = 268435456

-- the largest number of a plane: 0 is luma, 1 and 2 are chroma
unfoldable pub most_plane : ℕ
most_plane = 2

-- the most records of a series
unfoldable pub record_limit : ℕ
record_limit = 65536

-- the largest total: up to it the double is exact
unfoldable pub total_limit : ℕ
total_limit = exact_limit

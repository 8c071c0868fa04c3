-- How large P can be in the functions that work with it. Definitions only.
use Rattle.std.specs.Prelude.{ℕ, ◌^◌}

-- q stays below it
unfoldable pub power_limit : ℕ
power_limit = 21

-- above every P of a record or a total
unfoldable pub peak_limit : ℕ
unfolding power_limit
peak_limit = 10 ^ power_limit

-- How far whole numbers are doubles. Definitions only.
use Rattle.std.specs.Prelude.{ℕ, ◌^◌}

-- up to here every whole number is a double
abbrev pub exact_limit : ℕ
exact_limit = 2 ^ 53

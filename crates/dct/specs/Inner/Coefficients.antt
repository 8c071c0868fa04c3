-- What the transform promises of its result to a caller inside the library. Definitions only.
use Rattle.std.specs.Prelude.{ℕ}

-- for what forward takes, no coefficient's size is above this (proofs/Bound.antt, `coefficient_bound`)
abbrev pub coefficient_limit : ℕ
coefficient_limit = 65537

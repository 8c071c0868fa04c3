-- What the functions that work out variances by whole numbers promise each other. Definitions only.
use Rattle.std.specs.Prelude.{List, [], ◌∷◌, ℕ, ◌+◌, ◌*◌, ◌/◌, ◌%◌, ◌≤◌, T, ℤ, nat_abs}
use Rattle.std.specs.Int.Signed.{non_neg}
use Rattle.plane.specs.Plane.{sample_limit}
use Rattle.plane.specs.Sums.{sum_to}
use Rattle.dct.specs.Limits.{block_side}
use Rattle.hvs_block.specs.Block.{cell}

-- a number of a block of samples
pub record Sample (z : ℤ) : Type 0 where
  pub above : T (non_neg z)
  pub small : nat_abs z ≤ sample_limit

abbrev pub Samples : List ℤ → Type 0
Samples [] = Unit {0}
Samples (a ∷ v) = Sample a × Samples v

-- place k of the whole block, and of a quarter
abbrev pub level_of : List ℤ → ℕ → ℕ
level_of b k = nat_abs (cell b (0 + k / block_side) (0 + k % block_side))

abbrev pub level_in : List ℤ → ℕ → ℕ → ℕ → ℕ
level_in b top left k = nat_abs (cell b (top + k / 4) (left + k % 4))

-- the sum of the squares
abbrev pub squares : (ℕ → ℕ) → ℕ → ℕ
squares g n = sum_to (λ (k : ℕ). g k * g k) n

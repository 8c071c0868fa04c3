-- The four quarters make up the block. Assumes nothing.
use mathlib.Core.Path.{◌≡◌}
use Prim.Native.Nat.{ℕ, ◌+◌, ◌/◌, ◌%◌}
use native.Mathlib.Omega.{arith}
use Rattle.plane.specs.Sums.{sum_to}

abbrev quarter : (ℕ → ℕ → ℕ) → ℕ → ℕ → ℕ
quarter f top left = sum_to (λ (k : ℕ). f (top + k / 4) (left + k % 4)) 16

pub quarters : (f : ℕ → ℕ → ℕ)
    → quarter f 0 0 + quarter f 4 0 + quarter f 0 4 + quarter f 4 4 ≡ sum_to (λ (k : ℕ). f (0 + k / 8) (0 + k % 8)) 64
unfolding sum_to
quarters f = omega arith

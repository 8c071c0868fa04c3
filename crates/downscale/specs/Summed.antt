-- SCOPE, "HVS, SSIM and scales": each scale is made from the one above by summing 2×2 samples. Definitions only.
use Rattle.std.specs.Prelude.{ℕ, ◌+◌, ◌*◌}

-- what stands at row r and column c of the scale below a view
abbrev pub summed_of : (ℕ → ℕ → ℕ) → ℕ → ℕ → ℕ
summed_of v r c = v (2 * r) (2 * c) + v (2 * r) (2 * c + 1) + v (2 * r + 1) (2 * c) + v (2 * r + 1) (2 * c + 1)

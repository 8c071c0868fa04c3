-- A plane in lent 32-bit places: what stores leave there, and what is summed there. Definitions only.
use Rattle.std.specs.Prelude.{◌≡◌, List, ℕ, ◌+◌, ◌*◌, ◌≤◌, ◌<◌}
use Rattle.plane.specs.Plane.{at}

-- `new` has g 0 to g (n - 1) from place `from` on, and is `old` before and after
pub record Put (old new : List ℕ) (from n : ℕ) (g : ℕ → ℕ) : Type 0 where
  pub there : (i : ℕ) → i < n → at new (from + i) ≡ g i
  pub before : (i : ℕ) → i < from → at new i ≡ at old i
  pub after : (i : ℕ) → from + n ≤ i → at new i ≡ at old i

-- `new` has the first y rows of the view v, row after row with no padding, and is `old` after them
pub record Filled (old new : List ℕ) (width : ℕ) (v : ℕ → ℕ → ℕ) (y : ℕ) : Type 0 where
  pub rows : (r c : ℕ) → r < y → c < width → at new (r * width + c) ≡ v r c
  pub rest : (i : ℕ) → y * width ≤ i → at new i ≡ at old i

-- the sum of the 2×2 samples whose first stands at place i, in rows of `width`
abbrev pub sum2x2 : List ℕ → ℕ → ℕ → ℕ
sum2x2 l width i = at l i + at l (i + 1) + at l (i + width) + at l (i + width + 1)

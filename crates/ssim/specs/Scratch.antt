-- SCOPE, "When the desk says no": the places of scratch that SSIM needs, and what they are after a score. Definitions only.
use Rattle.std.specs.Prelude.{cond, List, ◌++◌, ℕ, ◌*◌, ltb, replicate, drop}
use Rattle.number.specs.Steps.{fold_to}

-- p, or twice p where p is below n
unfoldable pub doubled_below : ℕ → ℕ → ℕ
doubled_below n p = cond (ltb p n) (2 * p) p

-- the least power of two not below n: from 1 on, doubled as long as it is below n; n times is always enough
unfoldable pub next_power : ℕ → ℕ
next_power n = fold_to (λ (p i : ℕ). doubled_below n p) 1 n

-- the places that a kernel of so many taps needs: six sums for each column of each line, and as many lines as the least power of two
-- that is enough for the taps
abbrev pub scratch_places : ℕ → ℕ → ℕ
scratch_places width taps = 6 * width * next_power taps

-- places of any kind, the needed part all zero, the rest as it was
module _ {A : Type 0} (zero : A) where
  abbrev pub cleared : ℕ → List A → List A
  cleared need s = replicate need zero ++ drop need s

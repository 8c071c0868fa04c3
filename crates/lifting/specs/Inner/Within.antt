-- Numbers whose size is at most n. Definitions only.
use Rattle.std.specs.Prelude.{List, [], ◌∷◌, ℕ, ◌≤◌, ℤ, nat_abs}

pub record Within (n : ℕ) (a : ℤ) : Type 0 where
  pub le : nat_abs a ≤ n

-- every number lies from -n to n: a fact of each number, for a caller who knows it
abbrev pub AllWithin : ℕ → List ℤ → Type 0
AllWithin n [] = Unit {0}
AllWithin n (a ∷ v) = Within n a × AllWithin n v

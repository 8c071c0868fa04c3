-- SCOPE, "HVS, SSIM and scales": on doubles each operation is rounded once, in the order of the Rust. The four operations, the double of
-- a whole number, steps taken in turn, and a list by its places. Definitions only.
use Rattle.std.specs.Prelude.{ℕ, zero, suc, List, [], ◌∷◌, ◌++◌, pos, Float}
use Rattle.std.specs.Float.{binary64}
use Rattle.std.specs.Float.Ieee.{add, sub, mul, div, of_int}

abbrev pub ◌⊕◌ : Float → Float → Float
a ⊕ b = add binary64 a b

abbrev pub ◌⊖◌ : Float → Float → Float
a ⊖ b = sub binary64 a b

abbrev pub ◌⊗◌ : Float → Float → Float
a ⊗ b = mul binary64 a b

abbrev pub ◌⊘◌ : Float → Float → Float
a ⊘ b = div binary64 a b

infixl 60 ◌⊕◌
infixl 60 ◌⊖◌
infixl 70 ◌⊗◌
infixl 70 ◌⊘◌
-- the double nearest a whole number, ties to even; it is the number itself up to `exact_limit`
abbrev pub double : ℕ → Float
double n = of_int binary64 (pos n)

module _ {A : Type 0} where
  -- the steps 0 to n - 1 in turn, from a on
  unfoldable pub fold_to : (A → ℕ → A) → A → ℕ → A
  fold_to step a zero = a
  fold_to step a (suc n) = step (fold_to step a n) n

  -- f 0, f 1, .. f (n - 1)
  unfoldable pub list_to : (ℕ → A) → ℕ → List A
  list_to f zero = []
  list_to f (suc n) = list_to f n ++ (f n ∷ [])

-- SCOPE, "When the desk says no", 12 of the transform. Definitions only.
use Rattle.std.specs.Prelude.{Bool, true, ◌&&◌, cond, List, [], ◌∷◌, ℕ, eqb, leb, ℤ, nat_abs, length}
use Rattle.refusal.specs.First.{Verdict, first_broken}
use Rattle.refusal.specs.declared.Refusal.TheVariants as no
use Rattle.dct.specs.Limits.{block_size}

-- every number lies from -n to n: the test of what `AllWithin` (of `lifting`) states
abbrev pub all_within : ℕ → List ℤ → Bool
all_within n [] = true
all_within n (a ∷ v) = leb (nat_abs a) n && all_within n v

-- 64 places in, 64 places out, every value in range
unfoldable pub block_suits : ℕ → List ℤ → ℕ → Bool
block_suits n given places = eqb (length given) block_size && (eqb places block_size && all_within n given)

-- the answer of a call that takes -n to n: nothing, or 12
unfoldable pub transform_refusal : ℕ → List ℤ → List ℤ → Verdict
transform_refusal n given out = first_broken ((no.Value, block_suits n given (length out)) ∷ [])

-- what is in out afterwards: f of what was given, or, refused, what was there
unfoldable pub out_after : ℕ → (List ℤ → List ℤ) → List ℤ → List ℤ → List ℤ
out_after n f given out = cond (block_suits n given (length out)) (f given) out

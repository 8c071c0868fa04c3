-- The counts of places where the sides and taps are taken, and where they are not. Assumes nothing.
use mathlib.Core.Path.{◌≡◌, refl}
use mathlib.Core.Bool.{Bool, true, false, ◌&&◌, cond}
use Prim.Native.Nat.{ℕ, ◌≤◌}
use borrow.Author.Tests.{leb-true}
use lib.Dec.{leb}
use Rattle.refusal.proofs.Chain.{and_left, and_right}
use Rattle.fuavelino.specs.Places.{within}

pub within_says : (least most n : ℕ) → within least most n ≡ true → (least ≤ n) × (n ≤ most)
unfolding within
within_says least most n e = (leb-true least n (and_left _ _ e), leb-true n most (and_right (leb least n) _ e))

-- two such tests, both passed
pub both_say : (a b x c d y : ℕ) → (within a b x && within c d y) ≡ true → ((a ≤ x) × (x ≤ b)) × ((c ≤ y) × (y ≤ d))
both_say a b x c d y e = (within_says a b x (and_left _ _ e), within_says c d y (and_right (within a b x) _ e))

-- two calls' results, tested at once, as a fact of what the calls compute
pub tested : {r s a b v : Bool} → r ≡ a → s ≡ b → (r && s) ≡ v → (a && b) ≡ v
tested e f h = rw (e, f) at h

-- ---- a count is given where a test passed, and 0 where it failed
pub given : (t : Bool) (x : ℕ) → t ≡ true → x ≡ cond t x 0
given true x e = refl
given false x e = cc

pub not_given : (t : Bool) (x : ℕ) → t ≡ false → 0 ≡ cond t x 0
not_given true x e = cc
not_given false x e = refl

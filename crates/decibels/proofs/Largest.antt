-- The largest number up to another of which a test is true. Assumes nothing.
use mathlib.Core.Path.{◌≡◌, refl, sym, subst, ◌∙◌}
use mathlib.Core.Bool.{Bool, true, false, cond, true≢false}
use Prim.Native.Nat.{ℕ, zero, suc, ◌+◌, ◌≤◌, ◌<◌}
use native.Mathlib.Nat.{le_antisymm}
use native.Mathlib.Decide.{dec_le}
use native.Mathlib.Omega.{arith}
use Rattle.decibels.specs.Hundredths.{largest_to}

module _ (f : ℕ → Bool) where
  pub largest_le : (n : ℕ) → largest_to f n ≤ n
  unfolding largest_to
  largest_le zero = omega arith
  largest_le (suc n) = go (f (suc n)) (largest_le n)
    where
      go : (b : Bool) → largest_to f n ≤ n → cond b (suc n) (largest_to f n) ≤ suc n
      go true l = omega arith
      go false l = omega (arith, l)

  -- of nothing larger it is true
  pub largest_most : (n m : ℕ) → m ≤ n → f m ≡ true → m ≤ largest_to f n
  unfolding largest_to
  largest_most zero m l e = l
  largest_most (suc n) m l e = go (λ k. largest_most n m k e) (f (suc n)) refl (dec_le m n)
    where
      go : (m ≤ n → m ≤ largest_to f n) → (b : Bool) → f (suc n) ≡ b → Dec (m ≤ n) → m ≤ cond b (suc n) (largest_to f n)
      go before true p d = l
      go before false p (yes k) = before k
      go before false p (no k) =
          let q : m ≡ suc n = omega arith in
          absurd (true≢false (sym (subst (λ (x : ℕ). f x ≡ true) q e) ∙ p))

  -- of itself it is, where it is of 0
  pub largest_holds : (n : ℕ) → f 0 ≡ true → f (largest_to f n) ≡ true
  unfolding largest_to
  largest_holds zero e = e
  largest_holds (suc n) e = go (largest_holds n e) (f (suc n)) refl
    where
      go : f (largest_to f n) ≡ true → (b : Bool) → f (suc n) ≡ b → f (cond b (suc n) (largest_to f n)) ≡ true
      go before true p = p
      go before false p = before

  -- where it is true of all below one of which it is, the last before one of which it is not is the largest
  pub largest_is : ((j m : ℕ) → j ≤ m → f m ≡ true → f j ≡ true) → (n k : ℕ) → k ≤ n → f k ≡ true → (k < n → f (k + 1) ≡ false) → largest_to f n ≡ k
  largest_is falls n k l e next = le_antisymm (go (dec_le (largest_to f n) k)) (largest_most n k l e)
    where
      go : Dec (largest_to f n ≤ k) → largest_to f n ≤ k
      go (yes m) = m
      go (no m) =
          let held = largest_holds n (falls 0 k (omega arith) e) in
          let past = falls (k + 1) (largest_to f n) (omega arith) held in
          absurd (true≢false (sym past ∙ next (omega (arith, largest_le n))))

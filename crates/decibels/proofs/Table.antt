-- A rule of a table, proved at all of its entries by tests that are computed, part by part. Assumes nothing.
use mathlib.Core.Path.{◌≡◌, ◌∙◌, subst, sym}
use mathlib.Core.Bool.{Bool, true, ◌&&◌}
use mathlib.Core.List.{List, [], ◌∷◌, ◌++◌}
use Prim.Native.Nat.{ℕ, zero, suc, ◌+◌, ◌<◌}
use native.Mathlib.Nat.{add-zero, zero-add, add-suc, suc-add, le_of_suc-le-suc, not-suc-le-zero}
use lib.ListN.{length, get_or}
use Rattle.refusal.proofs.Chain.{and_left, and_right}

-- the test passes at each entry and its place, counted from i
abbrev pub every : (ℕ → ℕ → Bool) → ℕ → List ℕ → Bool
every f i [] = true
every f i (x ∷ xs) = f i x && every f (suc i) xs

module _ (f : ℕ → ℕ → Bool) where
  -- of two parts
  pub joined : (xs ys : List ℕ) (i : ℕ) → every f i xs ≡ true → every f (length xs + i) ys ≡ true → every f i (xs ++ ys) ≡ true
  joined [] ys i s t = rw zero-add at t
  joined (x ∷ xs) ys i s t =
      let u = subst (λ (n : ℕ). every f n ys ≡ true) (suc-add (length xs) i ∙ sym (add-suc (length xs) i)) t in
      rw (and_left (f i x) _ s) (joined xs ys (suc i) (and_right (f i x) _ s) u)

  from : (xs : List ℕ) (i : ℕ) → every f i xs ≡ true → (k : ℕ) → k < length xs → f (i + k) (get_or xs k 0) ≡ true
  from [] i t k h = absurd (not-suc-le-zero h)
  from (x ∷ xs) i t zero h = rw add-zero (and_left (f i x) _ t)
  from (x ∷ xs) i t (suc k) h =
      subst (λ (m : ℕ). f m (get_or xs k 0) ≡ true) (suc-add i k ∙ sym (add-suc i k))
      (from xs (suc i) (and_right (f i x) _ t) k (le_of_suc-le-suc h))

  pub at_place : (xs : List ℕ) → every f 0 xs ≡ true → (k : ℕ) → k < length xs → f k (get_or xs k 0) ≡ true
  at_place xs t k h = rw zero-add at (from xs 0 t k h)

-- Laws of `all_to` and of `none_above`. Assumes nothing.
use mathlib.Core.Path.{◌≡◌, refl, sym, ap, ◌∙◌}
use mathlib.Core.List.{List, map}
use lib.ListN.{length, get_or}
use Rattle.std.proofs.lemmas.List.{get_or-map}
use mathlib.Core.Bool.{Bool, true, false, ◌&&◌, and-false}
use Prim.Native.Nat.{ℕ, zero, suc, ◌+◌, ◌≤◌, ◌<◌}
use native.Mathlib.Nat.{not-suc-le-zero}
use native.Mathlib.Numerals.{add-one}
use native.Mathlib.Decide.{dec_lt}
use native.Mathlib.Omega.{arith}
use borrow.Author.Tests.{leb-true, le-leb}
use lib.Dec.{leb}
use Rattle.refusal.proofs.Chain.{and_left, and_right}
use Rattle.plane.specs.Plane.{at, all_to}
use Rattle.plane.specs.Tests.{none_above}

module _ (f : ℕ → Bool) where
  pub all_none : all_to f 0 ≡ true
  unfolding all_to
  all_none = refl

  pub all_more : (i : ℕ) → all_to f (i + 1) ≡ (all_to f i && f i)
  unfolding all_to
  all_more i = rw add-one

  -- one failure below n
  all_fails : (n i : ℕ) → i < n → f i ≡ false → all_to f n ≡ false
  unfolding all_to
  all_fails zero i l h = absurd (not-suc-le-zero l)
  all_fails (suc n) i l h = go (all_fails n i) (dec_lt i n)
    where
      go : (i < n → f i ≡ false → all_to f n ≡ false) → Dec (i < n) → (all_to f n && f n) ≡ false
      go less (yes m) = rw (less m h)
      go less (no m) = let e : n ≡ i = omega arith in rw (e, h, and-false)

  pub all_at : (n : ℕ) → all_to f n ≡ true → (i : ℕ) → i < n → f i ≡ true
  unfolding all_to
  all_at zero e i l = absurd (not-suc-le-zero l)
  all_at (suc n) e i l = go (all_at n (and_left (all_to f n) (f n) e) i) (dec_lt i n)
    where
      go : (i < n → f i ≡ true) → Dec (i < n) → f i ≡ true
      go less (yes m) = less m
      go less (no m) = let q : i ≡ n = omega arith in rw q (and_right (all_to f n) (f n) e)

  pub all_true : (n : ℕ) → ((i : ℕ) → f i ≡ true) → all_to f n ≡ true
  unfolding all_to
  all_true zero h = refl
  all_true (suc n) h = rw (all_true n h, h n)

pub all_ext : (f g : ℕ → Bool) (n : ℕ) → ((i : ℕ) → i < n → f i ≡ g i) → all_to f n ≡ all_to g n
unfolding all_to
all_ext f g zero h = refl
all_ext f g (suc n) h = rw (all_ext f g n (λ (i : ℕ) (l : i < n). h i (omega arith)), h n (omega arith))

pub all_holds : (f : ℕ → Bool) (n : ℕ) → ((i : ℕ) → i < n → f i ≡ true) → all_to f n ≡ true
all_holds f n h = all_ext f (λ (i : ℕ). true) n h ∙ all_true (λ (i : ℕ). true) n (λ i. refl)

pub none_none : (max : ℕ) (f : ℕ → ℕ) → none_above max f 0 ≡ true
unfolding none_above
none_none max f = all_none _

pub none_more : (max : ℕ) (f : ℕ → ℕ) (i : ℕ) → none_above max f (i + 1) ≡ (none_above max f i && leb (f i) max)
unfolding none_above
none_more max f i = all_more _ i

pub none_at : (max : ℕ) (f : ℕ → ℕ) (n : ℕ) → none_above max f n ≡ true → (i : ℕ) → i < n → f i ≤ max
unfolding none_above
none_at max f n e i l = leb-true (f i) max (all_at _ n e i l)

pub none_true : (max : ℕ) (f : ℕ → ℕ) (n : ℕ) → ((i : ℕ) → f i ≤ max) → none_above max f n ≡ true
unfolding none_above
none_true max f n h = all_true _ n (λ (i : ℕ). le-leb (f i) max (h i))

pub none_ext : (max : ℕ) (f g : ℕ → ℕ) (n : ℕ) → ((i : ℕ) → i < n → f i ≡ g i) → none_above max f n ≡ none_above max g n
unfolding none_above
none_ext max f g n h = all_ext _ _ n (λ (i : ℕ) (l : i < n). rw (h i l))

pub none_holds : (max : ℕ) (f : ℕ → ℕ) (n : ℕ) → ((i : ℕ) → i < n → f i ≤ max) → none_above max f n ≡ true
unfolding none_above
none_holds max f n h = all_holds _ n (λ i l. le-leb (f i) max (h i l))

-- what a walk reads from a list, as the number that it is
module _ {A : Type 0} (value : A → ℕ) where
  pub at_value : (xs : List A) (i : ℕ) {x : A} → x ≡ get_or xs i x → i < length xs → at (map value xs) i ≡ value x
  at_value xs i {x} e l = get_or-map value xs i x 0 l ∙ ap value (sym e)

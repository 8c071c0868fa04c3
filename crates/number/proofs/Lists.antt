-- Laws of `list_to`: its length, equal places, and a list that is filled place by place. Assumes nothing.
use Rattle.std.proofs.Common.{◌≡◌, ℕ, zero, suc, ◌+◌, ◌<◌, ◌≤◌, List, length, take, set, sym, refl, ◌∙◌, add-one, arith, length-append, take_all, take-suc-set}
use Rattle.number.specs.Steps.{list_to}

module _ {A : Type 0} where
  pub list_length : (f : ℕ → A) (n : ℕ) → length (list_to f n) ≡ n
  unfolding list_to
  list_length f zero = refl
  list_length f (suc n) = simp (length-append, list_length f n) (omega arith)

  pub list_ext : (f g : ℕ → A) (n : ℕ) → ((k : ℕ) → k < n → f k ≡ g k) → list_to f n ≡ list_to g n
  unfolding list_to
  list_ext f g zero h = refl
  list_ext f g (suc n) h = rw (list_ext f g n (λ k l. h k (omega arith)), h n (omega arith))

  -- a list of which the first i places are filled
  unfoldable pub Filled : (ℕ → A) → List A → ℕ → Type 0
  Filled f l i = take i l ≡ list_to f i

  pub filled_none : (f : ℕ → A) (l : List A) → Filled f l 0
  unfolding list_to Filled
  filled_none f l = refl

  pub filled_more : (f : ℕ → A) (l : List A) (i : ℕ) {v : A} → Filled f l i → v ≡ f i → i < length l → Filled f (set l i v) (i + 1)
  unfolding list_to Filled
  filled_more f l i {v} h e n = rw (add-one, take-suc-set l i v n, h, e)

  pub filled_all : (f : ℕ → A) (l : List A) (n : ℕ) → Filled f l n → length l ≤ n → l ≡ list_to f n
  unfolding Filled
  filled_all f l n h e = sym (take_all n l e) ∙ h

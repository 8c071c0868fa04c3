-- Laws of `fold_to`. Assumes nothing.
use Rattle.std.proofs.Common.{◌≡◌, ℕ, zero, suc, ◌+◌, ◌<◌, refl, ap, ◌∙◌, add-one, arith}
use Rattle.number.specs.Steps.{fold_to}

module _ {A : Type 0} where
  -- one more turn, at the code's i + 1
  pub fold_more : (step : A → ℕ → A) (a : A) (i : ℕ) → fold_to step a (i + 1) ≡ step (fold_to step a i) i
  unfolding fold_to
  fold_more step a i = rw add-one

  pub fold_none : (step : A → ℕ → A) (a : A) → fold_to step a 0 ≡ a
  unfolding fold_to
  fold_none step a = refl

  -- equal steps
  pub fold_ext : (s t : A → ℕ → A) (a : A) (n : ℕ) → ((b : A) (i : ℕ) → i < n → s b i ≡ t b i) → fold_to s a n ≡ fold_to t a n
  unfolding fold_to
  fold_ext s t a zero h = refl
  fold_ext s t a (suc n) h = h _ n (omega arith) ∙ ap (λ (b : A). t b n) (fold_ext s t a n (λ b i l. h b i (omega arith)))

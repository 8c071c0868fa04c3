-- Sums and products of whole numbers: what the library's ℤ does not have. Assumes nothing.
use mathlib.Core.Path.{◌≡◌, refl, sym, ap, ap₂, ◌∙◌}
use Prim.Native.Nat.{zero, suc, ◌*◌}
use lib.IntN.{ℤ, pos, negsuc, neg_ℤ, suc_ℤ, pred_ℤ, ◌+ℤ◌, ◌*ℤ◌, +ℤ_assoc, +ℤ_comm, +ℤ_idl, suc_ℤ-+ℤ, pred_ℤ-+ℤ, suc_ℤ-*ℤ, pred_ℤ-*ℤ, zero-*ℤ, *ℤ_comm, neg_ℤ-neg_ℤ}

swap : (a b c : ℤ) → (a +ℤ b) +ℤ c ≡ (a +ℤ c) +ℤ b
swap a b c = +ℤ_assoc a b c ∙ ap (λ (x : ℤ). a +ℤ x) (+ℤ_comm b c) ∙ sym (+ℤ_assoc a c b)

pub exchange : (a b c d : ℤ) → (a +ℤ b) +ℤ (c +ℤ d) ≡ (a +ℤ c) +ℤ (b +ℤ d)
exchange a b c d =
    sym (+ℤ_assoc (a +ℤ b) c d) ∙ ap (λ (x : ℤ). x +ℤ d) (swap a b c) ∙ +ℤ_assoc (a +ℤ c) b d

-- what holds at 0, and goes up and down by one, holds of every whole number
climb : (P : ℤ → Type 0) → P (pos 0) → ((k : ℤ) → P k → P (suc_ℤ k)) → ((k : ℤ) → P k → P (pred_ℤ k)) → (k : ℤ) → P k
climb P z u d (pos zero) = z
climb P z u d (pos (suc n)) = u (pos n) (climb P z u d (pos n))
climb P z u d (negsuc zero) = d (pos 0) z
climb P z u d (negsuc (suc n)) = d (negsuc n) (climb P z u d (negsuc n))

pub plus_times : (b m a : ℤ) → (a +ℤ b) *ℤ m ≡ a *ℤ m +ℤ b *ℤ m
plus_times b m = climb (λ a. (a +ℤ b) *ℤ m ≡ a *ℤ m +ℤ b *ℤ m)
    (rw (+ℤ_idl b, zero-*ℤ m, +ℤ_idl (b *ℤ m)))
    (λ k h. rw (suc_ℤ-+ℤ k b, suc_ℤ-*ℤ (k +ℤ b) m, h, suc_ℤ-*ℤ k m) (swap (k *ℤ m) (b *ℤ m) m))
    (λ k h. rw (pred_ℤ-+ℤ k b, pred_ℤ-*ℤ (k +ℤ b) m, h, pred_ℤ-*ℤ k m) (swap (k *ℤ m) (b *ℤ m) (neg_ℤ m)))

pub times_plus : (m a b : ℤ) → m *ℤ (a +ℤ b) ≡ m *ℤ a +ℤ m *ℤ b
times_plus m a b = *ℤ_comm m (a +ℤ b) ∙ plus_times b m a ∙ ap₂ (λ (x y : ℤ). x +ℤ y) (*ℤ_comm a m) (*ℤ_comm b m)

pub neg_times : (a b : ℤ) → neg_ℤ a *ℤ b ≡ neg_ℤ (a *ℤ b)
neg_times (pos zero) b = zero-*ℤ b ∙ sym (ap neg_ℤ (zero-*ℤ b))
neg_times (pos (suc n)) (pos k) = refl
neg_times (pos (suc n)) (negsuc k) = sym (neg_ℤ-neg_ℤ (pos (suc n * suc k)))
neg_times (negsuc n) (pos k) = sym (neg_ℤ-neg_ℤ (pos (suc n * k)))
neg_times (negsuc n) (negsuc k) = refl

pub times_neg : (a b : ℤ) → a *ℤ neg_ℤ b ≡ neg_ℤ (a *ℤ b)
times_neg a b = *ℤ_comm a (neg_ℤ b) ∙ neg_times b a ∙ ap neg_ℤ (*ℤ_comm b a)

pub times_assoc : (b c a : ℤ) → (a *ℤ b) *ℤ c ≡ a *ℤ (b *ℤ c)
times_assoc b c = climb (λ a. (a *ℤ b) *ℤ c ≡ a *ℤ (b *ℤ c))
    (rw (zero-*ℤ b, zero-*ℤ c, zero-*ℤ (b *ℤ c)))
    (λ k h. rw (suc_ℤ-*ℤ k b, plus_times b c (k *ℤ b), h, suc_ℤ-*ℤ k (b *ℤ c)))
    (λ k h. rw (pred_ℤ-*ℤ k b, plus_times (neg_ℤ b) c (k *ℤ b), h, neg_times b c, pred_ℤ-*ℤ k (b *ℤ c)))

-- two factors may change places
pub times_swap : (a b c : ℤ) → a *ℤ (b *ℤ c) ≡ b *ℤ (a *ℤ c)
times_swap a b c = sym (times_assoc b c a) ∙ ap (λ (x : ℤ). x *ℤ c) (*ℤ_comm a b) ∙ times_assoc a c b

-- Residues, which are differences of samples, and differences of two residues: forward takes what is in its range, whatever the signs, and
-- inverse gives it back. Assumes nothing.
use mathlib.Core.Path.{◌≡◌, refl, sym, ap, ◌∙◌}
use mathlib.Core.List.{List, [], ◌∷◌, map}
use Prim.Native.Nat.{ℕ, zero, suc, ◌+◌, ◌-◌, ◌≤◌}
use native.Mathlib.Omega.{arith}
use lib.Dec.{ltb}
use lib.IntN.{ℤ, pos, negsuc, nat_abs, ◌-ℤ◌}
use lib.ListN.{length}
use Rattle.lifting.specs.Inner.Within.{AllWithin}
use Rattle.lifting.proofs.Size.{cond_ind, size_diff}
use Rattle.dct.specs.Limits.{block_size, forward_limit, inverse_limit}
use Rattle.std.specs.Prelude.{Ok}
use Rattle.dct.specs.Call.{transform_refusal, out_after}
use Rattle.dct.specs.Block.{fdct8x8, idct8x8}
use Rattle.dct.proofs.Bound.{small_mono}
use Rattle.dct.proofs.Calls.{forward_then_inverse}

-- ---- blocks

-- no sample is above n
abbrev pub NoneAbove : ℕ → List ℕ → Type 0
NoneAbove n [] = Unit {0}
NoneAbove n (x ∷ p) = (x ≤ n) × NoneAbove n p

-- a block of samples, none above n
pub record Samples (n : ℕ) (p : List ℕ) : Type 0 where
  pub count : length p ≡ block_size
  pub most : NoneAbove n p

-- a less b, place by place
abbrev pub minus : List ℤ → List ℤ → List ℤ
minus [] b = []
minus (x ∷ a) [] = []
minus (x ∷ a) (y ∷ b) = (x -ℤ y) ∷ minus a b

-- what two blocks of samples differ by
abbrev pub residue : List ℕ → List ℕ → List ℤ
residue p q = minus (map pos p) (map pos q)

-- a residue less another
abbrev pub difference : List ℕ → List ℕ → List ℕ → List ℕ → List ℤ
difference p q r s = minus (residue p q) (residue r s)

-- ---- lengths

length_minus : (a b : List ℤ) → length a ≡ length b → length (minus a b) ≡ length a
length_minus [] b e = refl
length_minus (x ∷ a) [] e = absurd (omega (arith, e))
length_minus (x ∷ a) (y ∷ b) e = ap suc (length_minus a b (omega (arith, e)))

length_samples : (p : List ℕ) → length (map pos p) ≡ length p
length_samples [] = refl
length_samples (x ∷ p) = ap suc (length_samples p)

length_residue : (p q : List ℕ) → length p ≡ block_size → length q ≡ block_size → length (residue p q) ≡ block_size
length_residue p q e f =
    length_minus (map pos p) (map pos q) (length_samples p ∙ e ∙ sym (length_samples q ∙ f)) ∙ length_samples p ∙ e

-- ---- sizes

-- of two samples, neither above n, the difference is no larger than n
residue_size : (n x y : ℕ) → x ≤ n → y ≤ n → nat_abs (pos x -ℤ pos y) ≤ n
residue_size n x zero h k = omega arith
residue_size n x (suc y) h k = cond_ind (ltb x (suc y)) (negsuc (suc y - suc x)) (pos (x - suc y)) (λ z. nat_abs z ≤ n) (λ t. omega arith) (λ t. omega arith)

residue_small : (n : ℕ) (p q : List ℕ) → NoneAbove n p → NoneAbove n q → AllWithin n (residue p q)
residue_small n [] q h k = tt
residue_small n (x ∷ p) [] h k = tt
residue_small n (x ∷ p) (y ∷ q) h k = (record { le = residue_size n x y h.0 k.0 }, residue_small n p q h.1 k.1)

-- of two numbers with signs the sizes add up
minus_small : (n m : ℕ) (a b : List ℤ) → AllWithin n a → AllWithin m b → AllWithin (n + m) (minus a b)
minus_small n m [] b h k = tt
minus_small n m (x ∷ a) [] h k = tt
minus_small n m (x ∷ a) (y ∷ b) h k = (record { le = omega (arith, size_diff x y, h.0.le, k.0.le) }, minus_small n m a b h.1 k.1)

-- ---- there and back

-- forward takes the block, inverse takes what forward leaves, and leaves the block
abbrev pub Returns : List ℤ → List ℤ → List ℤ → Type 0
Returns b out out₂ =
    let z = out_after forward_limit fdct8x8 b out in
    (transform_refusal forward_limit b out ≡ Ok tt) × (transform_refusal inverse_limit z out₂ ≡ Ok tt) × (out_after inverse_limit idct8x8 z out₂ ≡ b)

module _ (n : ℕ) (out out₂ : List ℤ) (o : length out ≡ block_size) (o₂ : length out₂ ≡ block_size) where
  pub residue_returns : n ≤ forward_limit → (p q : List ℕ) → Samples n p → Samples n q → Returns (residue p q) out out₂
  residue_returns l p q hp hq =
      forward_then_inverse (residue p q) out out₂ (length_residue p q hp.count hq.count) o o₂
      (small_mono l (residue p q) (residue_small n p q hp.most hq.most))

  pub difference_returns : n + n ≤ forward_limit → (p q r s : List ℕ) → Samples n p → Samples n q → Samples n r → Samples n s
      → Returns (difference p q r s) out out₂
  difference_returns l p q r s hp hq hr hs =
      let one = residue p q in
      let two = residue r s in
      let e = length_residue p q hp.count hq.count in
      let f = length_residue r s hr.count hs.count in
      let small = minus_small n n one two (residue_small n p q hp.most hq.most) (residue_small n r s hr.most hs.most) in
      forward_then_inverse (minus one two) out out₂ (length_minus one two (e ∙ sym f) ∙ e) o o₂ (small_mono l (minus one two) small)

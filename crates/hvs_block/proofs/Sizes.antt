-- What is read of a block is what stands there; squares of coefficients fit into 64 bits. Assumes nothing.
use mathlib.Core.Path.{◌≡◌, ap, ◌∙◌}
use mathlib.Core.List.{List}
use Prim.Native.Nat.{ℕ, ◌≤◌, ◌^◌}
use native.Mathlib.Nat.{mul-le-mul, le_trans, lt_of_le_of_lt}
use lib.Dec.{T, ltb, ltb→lt, lt→ltb, le→leb, lit≤, lit<}
use lib.IntN.{ℤ, pos, negsuc, nat_abs, ◌*ℤ◌}
use lib.ListN.{get_or}
use lib.Ieee.{binary64, in_float}
use mir.Syntax.{w64}
use mir.Val.{SFits, to_z, of_z}
use mir.Facts.{to_z-of_z}
use Rattle.number.specs.Limits.{exact_limit}
use Rattle.dct.specs.Inner.Coefficients.{coefficient_limit}
use Rattle.lifting.specs.Inner.Within.{Within, AllWithin}
use Rattle.lifting.specs.Inner.Operation.{read32}
use Rattle.hvs_block.specs.Inner.Levels.{Sample}
use Rattle.hvs_block.proofs.Numbers.{sample_small}
use Rattle.lifting.proofs.Size.{fits, fits64, size_mul, whole}
use Rattle.dct.proofs.Blocks.{small_at}

-- ---- a place of a block, as it is read
same : {n : ℕ} {z : ℤ} → T (ltb n (2 ^ 31)) → Within n z → read32 z ≡ z
same {n} {z} t w = whole (fits z (lt_of_le_of_lt w.le (ltb→lt n (2 ^ 31) t))).sfits

pub read_sample : {z : ℤ} → Sample z → read32 z ≡ z
read_sample h = same {n = 2 ^ 12} tt (record { le = sample_small h })

pub sample_read : {z : ℤ} → Sample z → Sample (read32 z)
sample_read h = rw (read_sample h) h

pub read_coefficient : (b : List ℤ) → AllWithin coefficient_limit b → (k : ℕ) → read32 (get_or b k (pos 0)) ≡ get_or b k (pos 0)
read_coefficient b h k = same tt (small_at coefficient_limit b h k)

-- ---- its square, formed in 64 bits, which a double holds too
exact : (z : ℤ) → nat_abs z ≤ exact_limit → T (in_float binary64 z)
unfolding in_float
exact (pos n) h = le→leb n exact_limit h
exact (negsuc n) h = lt→ltb n exact_limit h

-- what is read back from 64 bits of a number that was read from 32
abbrev widened : ℤ → ℤ
widened a = to_z w64 (of_z w64 (read32 a))

module _ {a : ℤ} (h : Within coefficient_limit a) where
  wide : SFits w64 a
  wide = fits64 a (lt_of_le_of_lt h.le (lit< tt))

  widened_is : widened a ≡ a
  widened_is = ap (λ (z : ℤ). to_z w64 (of_z w64 z)) (same tt h) ∙ to_z-of_z wide

  square_small : nat_abs (a *ℤ a) ≤ exact_limit
  square_small = rw (size_mul a a) (le_trans (mul-le-mul h.le h.le) (lit≤ tt))

  fits_wide : SFits w64 (a *ℤ a)
  fits_wide = fits64 (a *ℤ a) (lt_of_le_of_lt square_small (lit< tt))

  pub wide_fits : SFits w64 (read32 a)
  wide_fits = rw (same tt h) wide

  pub square_fits : SFits w64 (widened a *ℤ widened a)
  square_fits = rw widened_is fits_wide

  pub square_is : to_z w64 (of_z w64 (widened a *ℤ widened a)) ≡ a *ℤ a
  square_is = rw widened_is (to_z-of_z fits_wide)

  pub square_exact : T (in_float binary64 (to_z w64 (of_z w64 (widened a *ℤ widened a))))
  square_exact = rw square_is (exact (a *ℤ a) square_small)

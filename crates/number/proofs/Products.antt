-- What a product has on one side of zero, of a number from -0 on and a double: what the exact one has, but for the error of rounding. Assumes nothing.
use Rattle.std.proofs.Common.{◌≡◌, ℕ, ◌+◌, ◌*◌, ◌^◌, ◌<◌, ◌≤◌, Bool, true, false, cond, T, ℤ, sym, refl, ap, zero-le, mul-pos, zero-mul, le_of_mul-le-mul_right, arith}
use mathlib.Core.Bool.{beq}
use lib.Ieee.{Float, nan, inf, fin, binary64, up, down, unlike, mul, fits}
use lib.Ieee.Fits.{down_pos}
use lib.Ieee.Positive.{num, den}
use lib.Ieee.Scale.{finite}
use Rattle.number.specs.Root.{units_of}
use Rattle.number.specs.Steps.{◌⊗◌}
use Rattle.number.proofs.Order.{Within}
use Rattle.number.proofs.Overflow.{never, mul_finite}
use Rattle.number.proofs.Parts.{one, on, part, units_exact, on_units, round_most, round_least}
use Rattle.number.proofs.Rounding.{Most, Least, Rounds}

times_le : (b s : Bool) (p y l : ℕ) → on b s (p * y * l) ≤ p * (on b s y * l)
times_le b s p y l = go (beq s b)
  where
    go : (t : Bool) → cond t (p * y * l) 0 ≤ p * (cond t y 0 * l)
    go true = omega arith
    go false = zero-le

nothing_le : (b s : Bool) (p y l n : ℕ) → p ≡ 0 → on b s (p * y * l) ≤ n
nothing_le b s p y l n h = go (beq s b)
  where
    go : (t : Bool) → cond t (p * y * l) 0 ≤ n
    go true = rw (h, zero-mul y, zero-mul l) zero-le
    go false = zero-le

module _ (r p q x u d l : ℕ) (D : 0 < d) (h : x * l ≡ u * d) where
  pub times_upto : Most (r * (q * d)) (p * (x * l)) (q * d) → Most (q * r) (p * u) q
  times_upto k = le_of_mul-le-mul_right {m = 2 ^ 53 * (q * r)} {n = 2 ^ 53 * (p * u) + (p * u + 2 ^ 52 * q)} {k = d} (omega (arith, ap (λ (z : ℕ). p * z) h, k)) D

  pub times_from : Least (r * (q * d)) (p * x * l) (q * d) → Least (q * r) (p * u) q
  times_from k = le_of_mul-le-mul_right {m = 2 ^ 53 * (p * u)} {n = 2 ^ 53 * (q * r) + (p * u + 2 ^ 52 * q)} {k = d} (omega (arith, ap (λ (z : ℕ). p * z) h, k)) D

no_times : (p q r : ℕ) → p ≡ 0 → (u : ℕ) → Least (q * r) (p * u) q
no_times p q r h u = rw (h, zero-mul u) zero-le

pub of_none : (p q r : ℕ) → Least (q * r) (p * 0) q
of_none p q r = omega arith

module _ (k : ℕ) where
  product_most : (b s t : Bool) (m n : ℕ) (e d : ℤ) → Within k (fin s m e) → T (fits binary64 (fin t n d)) → finite (fin s m e ⊗ fin t n d) ≡ true
      → Most (down e * part b (fin s m e ⊗ fin t n d)) (m * up e * part b (fin t n d)) (down e)
  unfolding mul
  product_most b s t m n e d w g h =
      times_upto (part b (fin s m e ⊗ fin t n d)) (m * up e) (down e) (on b t (n * up d)) (part b (fin t n d)) (down d) one (down_pos d)
      (on_units b t (units_of (fin t n d)) (n * up d) (down d) one (units_exact t n d g))
      (round_most (m * up e * (n * up d)) (down e * down d) (mul-pos (down_pos e) (down_pos d)) b (unlike s t) (m * up e * (on b t (n * up d) * one)) h (signed s t w))
    where
      signed : (s t : Bool) → Within k (fin s m e) → on b (unlike s t) (m * up e * (n * up d) * one) ≤ m * up e * (on b t (n * up d) * one)
      signed true t w = nothing_le b (unlike true t) (m * up e) (n * up d) one (m * up e * (on b t (n * up d) * one)) (w.0 refl)
      signed false true w = times_le b true (m * up e) (n * up d) one
      signed false false w = times_le b false (m * up e) (n * up d) one

  product_least : (b s t : Bool) (m n : ℕ) (e d : ℤ) → Within k (fin s m e) → T (fits binary64 (fin t n d)) → finite (fin s m e ⊗ fin t n d) ≡ true
      → Least (down e * part b (fin s m e ⊗ fin t n d)) (m * up e * part b (fin t n d)) (down e)
  unfolding mul
  product_least b true t m n e d w g h = no_times (m * up e) (down e) (part b (fin true m e ⊗ fin t n d)) (w.0 refl) (part b (fin t n d))
  product_least true false true m n e d w g h =
      times_from (part true (fin false m e ⊗ fin true n d)) (m * up e) (down e) (n * up d) (units_of (fin true n d)) (down d) one (down_pos d) (sym (units_exact true n d g))
      (round_least (m * up e * (n * up d)) (down e * down d) (mul-pos (down_pos e) (down_pos d)) true h)
  product_least false false false m n e d w g h =
      times_from (part false (fin false m e ⊗ fin false n d)) (m * up e) (down e) (n * up d) (units_of (fin false n d)) (down d) one (down_pos d) (sym (units_exact false n d g))
      (round_least (m * up e * (n * up d)) (down e * down d) (mul-pos (down_pos e) (down_pos d)) false h)
  product_least true false false m n e d w g h = of_none (m * up e) (down e) (part true (fin false m e ⊗ fin false n d))
  product_least false false true m n e d w g h = of_none (m * up e) (down e) (part false (fin false m e ⊗ fin true n d))

  pub mul_rounds : (b : Bool) (c x : Float) → Within k c → T (fits binary64 x) → finite (c ⊗ x) ≡ true
      → Rounds (den c * part b (c ⊗ x)) (num c * part b x) (den c)
  mul_rounds b nan x w f h = absurd w
  mul_rounds b (inf s) x w f h = absurd w
  mul_rounds b (fin s m e) x w f h = go x f h (mul_finite binary64 (fin s m e) x h).1
    where
      go : (x : Float) → T (fits binary64 x) → finite (fin s m e ⊗ x) ≡ true → finite x ≡ true
          → Rounds (down e * part b (fin s m e ⊗ x)) (m * up e * part b x) (down e)
      go nan f h q = absurd (never q)
      go (inf t) f h q = absurd (never q)
      go (fin t n d) f h q = (product_most b s t m n e d w f h, product_least b s t m n e d w f h)

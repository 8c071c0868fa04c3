-- The weight 1 + 2c of a lawful c is from 1 to 3, after rounding too. So it is finite, and SSIM's 9 turns on its sum alone. Assumes nothing.
use mathlib.Core.Path.{◌≡◌, refl, sym, ap, ◌∙◌, subst}
use mathlib.Core.Bool.{Bool, true, false, ◌&&◌, and-true}
use Prim.Native.Nat.{ℕ, suc, ◌+◌, ◌-◌, ◌*◌, ◌^◌, ◌≤◌, ◌<◌}
use native.Mathlib.Nat.{zero-mul}
use native.Mathlib.Omega.{arith}
use lib.Dec.{T}
use lib.Pow.{pow_pos}
use lib.Ieee.{Float, nan, inf, fin, binary64, prec, emax, low, up, down, round, sum, add, mul, le, of_bits}
use lib.Ieee.Fits.{down_pos}
use lib.Ieee.Exact.{round_exact}
use lib.Ieee.Positive.{positive, between}
use lib.Ieee.Scale.{finite}
use borrow.Author.Tests.{le-ltb}
use Rattle.refusal.proofs.Chain.{and_left, and_right}
use Rattle.number.specs.Literals.{zero_d, one_d, two_d}
use Rattle.number.specs.Steps.{◌⊕◌, ◌⊗◌}
use Rattle.number.proofs.Order.{Within, within, zero_within, from, upto}
use Rattle.combine.specs.declared.Planar.{Planar}
use Rattle.combine.specs.Combine.{weighted_sum, whole_weight, combinable, combined_refusal, sum_for, sum_or, combined_ssim_of}

-- 3.0
abbrev pub three : Float
three = of_bits binary64 0x4008000000000000

-- ---- 2c is from -0 to 2

doubled : (c : Float) → Within 1 c → Within 2 (two_d ⊗ c)
unfolding mul of_bits round
doubled nan h = h
doubled (inf s) h = h
doubled (fin true m e) h =
    let zero : 2 * (m * up e) ≡ 0 = omega (arith, h.0 refl) in
    let D : 0 < 1 * down e = omega (arith, down_pos e) in
    zero_within 2 (round binary64 true (2 * (m * up e)) (1 * down e)) (2 * (m * up e)) (1 * down e) D zero
    (round_exact binary64 true (2 * (m * up e)) (1 * down e) 0 0 D (pow_pos (prec binary64)) (pow_pos (low binary64 + suc (emax binary64)))
    (ap (λ (x : ℕ). x * 2 ^ low binary64) zero ∙ zero-mul (2 ^ low binary64) ∙ sym (zero-mul (1 * down e))))
doubled (fin false m e) h =
    let D : 0 < 1 * down e = omega (arith, down_pos e) in
    within 1 1 (round binary64 false (2 * (m * up e)) (1 * down e))
    (from (2 * (m * up e)) (1 * down e) D 0 (omega arith)) (upto (2 * (m * up e)) (1 * down e) D 2 (omega (arith, h.1)))

-- ---- 1 + 2c is from 1 to 3

near_one : (a b : ℕ) → 0 < b → 1 * b ≤ a → a ≤ 3 * b → T (le one_d (round binary64 false a b)) × T (le (round binary64 false a b) three)
unfolding round of_bits
near_one a b B l h = (from a b B 1 l, upto a b B 3 h)

one_more : (x : Float) → Within 2 x → T (le one_d (one_d ⊕ x)) × T (le (one_d ⊕ x) three)
unfolding add sum of_bits
one_more nan h = absurd h
one_more (inf s) h = absurd h
one_more (fin true m e) h =
    let zero : m * up e ≡ 0 = h.0 refl in
    rw (le-ltb (1 * down e) (m * up e * 1) (omega (arith, zero)))
    (near_one (1 * down e - m * up e * 1) (1 * down e) (omega (arith, down_pos e)) (omega (arith, zero)) (omega (arith, zero)))
one_more (fin false m e) h =
    near_one (1 * down e + m * up e * 1) (1 * down e) (omega (arith, down_pos e)) (omega arith) (omega (arith, h.1))

module _ (c : Float) (least : T (le zero_d c)) (most : T (le c one_d)) where
  pub weight_bounds : T (le one_d (whole_weight c)) × T (le (whole_weight c) three)
  unfolding whole_weight of_bits
  weight_bounds = one_more (two_d ⊗ c) (doubled c (within 1 0 c least most))

  pub weight_positive : T (positive (whole_weight c))
  unfolding of_bits
  weight_positive = between one_d (whole_weight c) three tt tt weight_bounds.0 weight_bounds.1

between_finite : (x : Float) → T (le one_d x) → T (le x three) → finite x ≡ true
unfolding le of_bits
between_finite nan p q = absurd p
between_finite (inf true) p q = absurd p
between_finite (inf false) p q = absurd q
between_finite (fin s m e) p q = refl

-- what 13 leaves of the weight
pub lawful : (c : Float) (s : Planar) → combinable c s ≡ true → T (le zero_d c) × T (le c one_d)
unfolding combinable
lawful c s e =
    let within_both : (le zero_d c && le c one_d) ≡ true = and_left (le zero_d c && le c one_d) (finite s.y && finite s.u && finite s.v) e in
    (subst T (sym (and_left (le zero_d c) (le c one_d) within_both)) tt, subst T (sym (and_right (le zero_d c) (le c one_d) within_both)) tt)

-- and of the numbers
pub numbers : (c : Float) (s : Planar) → combinable c s ≡ true → (finite s.y ≡ true) × ((finite s.u ≡ true) × (finite s.v ≡ true))
unfolding combinable
numbers c s e =
    let all : (finite s.y && finite s.u && finite s.v) ≡ true = and_right (le zero_d c && le c one_d) (finite s.y && finite s.u && finite s.v) e in
    let two : (finite s.y && finite s.u) ≡ true = and_left (finite s.y && finite s.u) (finite s.v) all in
    (and_left (finite s.y) (finite s.u) two, (and_right (finite s.y) (finite s.u) two, and_right (finite s.y && finite s.u) (finite s.v) all))

pub weight_finite : (c : Float) (s : Planar) → combinable c s ≡ true → finite (whole_weight c) ≡ true
weight_finite c s e =
    let bounds = weight_bounds c (lawful c s e).0 (lawful c s e).1 in
    between_finite (whole_weight c) bounds.0 bounds.1

-- SSIM's 9 turns on its sum alone
pub ssim_by_sum : (c : Float) (s : Planar) → combined_ssim_of c s ≡ sum_for (combined_refusal (combinable c s) (finite (weighted_sum c s))) (weighted_sum c s) (whole_weight c)
ssim_by_sum c s = go (combinable c s) refl
  where
    go : (b : Bool) → combinable c s ≡ b
        → sum_or b (weighted_sum c s) (whole_weight c) ≡ sum_for (combined_refusal b (finite (weighted_sum c s))) (weighted_sum c s) (whole_weight c)
    go true e = rw (weight_finite c s e, and-true (finite (weighted_sum c s)))
    go false e = refl

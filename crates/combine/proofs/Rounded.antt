-- The HVS figure beside the exact average, step by step, on one side of zero: at most the exact average of what is on that side, its 2^50th part and
-- two units; and at least that much less, where nothing is on the other. A unit is the smallest double above zero. Assumes nothing.
use mathlib.Core.Path.{◌≡◌, refl, sym, subst}
use mathlib.Core.Bool.{Bool, true, false, not, true≢false}
use Prim.Native.Nat.{ℕ, zero, suc, ◌+◌, ◌*◌, ◌^◌, ◌≤◌, ◌<◌}
use native.Mathlib.Nat.{one-mul, mul-pos}
use native.Mathlib.Omega.{arith}
use lib.Dec.{T, lit≤}
use lib.Pow.{pow_pos, pow_mono}
use lib.Ieee.{Float, binary64, low, fits, le, of_bits}
use lib.Ieee.Bits.{of_bits-fits}
use lib.Ieee.Fits.{add-fits, mul-fits}
use lib.Ieee.Positive.{num, den, positive, den_pos}
use lib.Ieee.Scale.{finite}
use Rattle.number.specs.Literals.{zero_d, one_d, two_d}
use Rattle.number.specs.Root.{units_of}
use Rattle.number.specs.Steps.{◌⊕◌, ◌⊗◌}
use Rattle.number.proofs.Order.{Within, within}
use Rattle.number.proofs.Overflow.{add_finite}
use Rattle.number.proofs.Parts.{one, part, within_none, within_units, positive_units, positive_above}
use Rattle.number.proofs.Products.{mul_rounds}
use Rattle.number.proofs.Quotients.{div_rounds}
use Rattle.number.proofs.Rounding.{Most, Least}
use Rattle.number.proofs.Sums.{add_most, add_least}
use Rattle.combine.specs.declared.Planar.{Planar}
use Rattle.combine.specs.Combine.{weighted_sum, whole_weight, visual_score, combinable}
use Rattle.combine.proofs.Joined.{m, sum_most, sum_least, spread_most, spread_least, joined_most, joined_least, quotient_most, quotient_least}
use Rattle.combine.proofs.Joined.{widened_most, widened_least, weight_most, weight_least, fraction_most, fraction_least}
use Rattle.combine.proofs.Overflow.{sum_fits, Steps, score_steps}
use Rattle.combine.proofs.Weight.{lawful, weight_positive}

-- ---- the rounded weight beside the exact one

module _ (c : Float) (range : T (le zero_d c) × T (le c one_d)) (C : T (fits binary64 c)) (W : finite (whole_weight c) ≡ true) where
  -- c as a factor
  in_range : Within 1 c
  unfolding of_bits
  in_range = within 1 0 c range.0 range.1

  two_within : Within 2 two_d
  unfolding of_bits
  two_within = (λ t. absurd (true≢false (sym t)), lit≤ tt)

  one_is : part false one_d ≡ one
  unfolding of_bits units_of
  one_is = refl

  none_of_one : part true one_d ≡ 0
  unfolding of_bits
  none_of_one = refl

  one_fits : T (fits binary64 one_d)
  one_fits = of_bits-fits binary64 0x3FF0000000000000

  abbrev twice : Float
  twice = two_d ⊗ c

  twice_finite : finite twice ≡ true
  unfolding whole_weight
  twice_finite = (add_finite binary64 one_d twice W).1

  twice_most : (b : Bool) → Most (part b twice) (2 * part b c) 1
  unfolding of_bits
  twice_most b = subst (λ (x : ℕ). Most x (2 * part b c) 1) (one-mul (part b twice)) (mul_rounds 2 b two_d c two_within C twice_finite).0

  twice_least : Least (part false twice) (2 * part false c) 1
  unfolding of_bits
  twice_least = subst (λ (x : ℕ). Least x (2 * part false c) 1) (one-mul (part false twice)) (mul_rounds 2 false two_d c two_within C twice_finite).1

  none_of_twice : part true twice ≡ 0
  none_of_twice = empty (part true twice) (part true c) (within_none 1 c in_range C) (twice_most true)
    where
      empty : (g k : ℕ) → k ≡ 0 → Most g (2 * k) 1 → g ≡ 0
      empty g k z h = omega (arith, z, h)

  whole_most : Most (part false (whole_weight c)) (one + part false twice) 1
  unfolding whole_weight
  whole_most = subst (λ (x : ℕ). Most (part false (one_d ⊕ twice)) (x + part false twice) 1) one_is (add_most false one_d twice one_fits (mul-fits binary64 two_d c) W)

  whole_least : Least (part false (whole_weight c)) (one + part false twice) 1
  unfolding whole_weight
  whole_least =
      subst (λ (x : ℕ). Least (part false (one_d ⊕ twice)) (x + part false twice) 1) one_is
      (add_least false one_d twice one_fits (mul-fits binary64 two_d c) none_of_one none_of_twice W)

  large : 2 ^ 60 ≤ one
  large = pow_mono {i = 60} {j = low binary64} (lit≤ tt)

  weight_fits : T (fits binary64 (whole_weight c))
  unfolding whole_weight
  weight_fits = add-fits binary64 one_d twice

  above_zero : T (positive (whole_weight c))
  above_zero = weight_positive c range.0 range.1

  weight_above : 0 < num (whole_weight c)
  weight_above = positive_above (whole_weight c) above_zero

  abbrev exact : ℕ
  exact = den c + 2 * num c

  whole_upto : m * (den c * num (whole_weight c)) ≤ (m + 33) * (exact * den (whole_weight c))
  whole_upto =
      fraction_most one (part false c) (part false (whole_weight c)) (num c) (den c) (num (whole_weight c)) (den (whole_weight c)) (pow_pos (low binary64))
      (within_units 1 c in_range C) (positive_units (whole_weight c) above_zero weight_fits)
      (weight_most one (part false c) (part false twice) (part false (whole_weight c)) large (twice_most false) whole_most)

  whole_from : m * (exact * den (whole_weight c)) ≤ (m + 33) * (den c * num (whole_weight c))
  whole_from =
      fraction_least one (part false c) (part false (whole_weight c)) (num c) (den c) (num (whole_weight c)) (den (whole_weight c)) (pow_pos (low binary64))
      (within_units 1 c in_range C) (positive_units (whole_weight c) above_zero weight_fits)
      (weight_least one (part false c) (part false twice) (part false (whole_weight c)) large twice_least whole_least)

-- ---- the score beside the exact average of its parts

-- c and the three are doubles
pub record Doubles (c : Float) (s : Planar) : Type 0 where
  pub weight : T (fits binary64 c)
  pub luma : T (fits binary64 s.y)
  pub cb : T (fits binary64 s.u)
  pub cr : T (fits binary64 s.v)

-- and the call answers their score
pub record Answered (c : Float) (s : Planar) : Type 0 where
  pub doubles : Doubles c s
  pub ok : combinable c s ≡ true
  pub given : finite (visual_score c s) ≡ true

module _ (c : Float) (s : Planar) (t : Answered c s) where
  steps : Steps c s
  steps = score_steps c s t.ok t.given

  range : T (le zero_d c) × T (le c one_d)
  range = lawful c s t.ok

  abbrev q : ℕ
  q = den c

  abbrev p : ℕ
  p = num c

  abbrev n : ℕ
  n = num (whole_weight c)

  abbrev z : ℕ
  z = den (whole_weight c)

  abbrev chroma : Float
  chroma = s.u ⊕ s.v

  -- q + 2p, and q × y + p × (u + v) on the side b
  abbrev pub heft : ℕ
  heft = q + 2 * p

  abbrev pub parts : Bool → ℕ
  parts b = q * part b s.y + p * (part b s.u + part b s.v)

  c_within : Within 1 c
  c_within = in_range c range t.doubles.weight steps.weight

  w_positive : T (positive (whole_weight c))
  w_positive = above_zero c range t.doubles.weight steps.weight

  chroma_most : (b : Bool) → Most (part b chroma) (part b s.u + part b s.v) 1
  chroma_most b = add_most b s.u s.v t.doubles.cb t.doubles.cr steps.chroma

  product_most : (b : Bool) → Most (q * part b (c ⊗ chroma)) (p * part b chroma) q
  product_most b = (mul_rounds 1 b c chroma c_within (add-fits binary64 s.u s.v) steps.product).0

  weighted_most : (b : Bool) → Most (part b (weighted_sum c s)) (part b s.y + part b (c ⊗ chroma)) 1
  unfolding weighted_sum
  weighted_most b = add_most b s.y (c ⊗ chroma) t.doubles.luma (mul-fits binary64 c chroma) steps.sum

  score_over_most : (b : Bool) → Most (n * part b (visual_score c s)) (z * part b (weighted_sum c s)) n
  unfolding visual_score
  score_over_most b = (div_rounds b (weighted_sum c s) (whole_weight c) (sum_fits c s) w_positive t.given).0

  common : 0 < q * n
  common = mul-pos (den_pos c) (weight_above c range t.doubles.weight steps.weight)

  -- at most the exact average of what is on that side, its 2^50th part and two units
  pub score_most : (b : Bool) → 2 ^ 50 * (heft * part b (visual_score c s)) ≤ (2 ^ 50 + 1) * parts b + 2 ^ 51 * heft
  score_most b =
      quotient_most (q * n) (heft * z) (q * part b (weighted_sum c s)) (parts b) heft (heft * part b (visual_score c s)) common
      (whole_from c range t.doubles.weight steps.weight)
      (widened_most q n z (part b (weighted_sum c s)) (part b (visual_score c s)) heft (score_over_most b))
      (sum_most (p * (part b s.u + part b s.v)) (p * part b chroma) (q * part b (c ⊗ chroma)) (q * part b s.y) (q * part b (weighted_sum c s)) p q
      (spread_most p (part b chroma) (part b s.u + part b s.v) (chroma_most b)) (product_most b) (joined_most q (part b (weighted_sum c s)) (part b s.y) (part b (c ⊗ chroma)) (weighted_most b)))

  -- where nothing is on a side, nothing of the score is
  module _ (b : Bool) (no_y : part b s.y ≡ 0) (no_u : part b s.u ≡ 0) (no_v : part b s.v ≡ 0) where
    none : (x k l : ℕ) → 0 < l → k ≡ 0 → (m : ℕ) → Most (l * x) (m * k) l → x ≡ 0
    none zero k l L e m h = refl
    none (suc x) k l L e m h = absurd (omega (arith, L, subst (λ (i : ℕ). Most (l * suc x) (m * i) l) e h))

    none_added : (x i k : ℕ) → i ≡ 0 → k ≡ 0 → Most x (i + k) 1 → x ≡ 0
    none_added x i k e f h = omega (arith, e, f, h)

    no_chroma : part b chroma ≡ 0
    no_chroma = none_added (part b chroma) (part b s.u) (part b s.v) no_u no_v (chroma_most b)

    no_product : part b (c ⊗ chroma) ≡ 0
    no_product = none (part b (c ⊗ chroma)) (part b chroma) q (den_pos c) no_chroma p (product_most b)

    no_sum : part b (weighted_sum c s) ≡ 0
    no_sum = none_added (part b (weighted_sum c s)) (part b s.y) (part b (c ⊗ chroma)) no_y no_product (weighted_most b)

    pub no_score : part b (visual_score c s) ≡ 0
    no_score = none (part b (visual_score c s)) (part b (weighted_sum c s)) n (weight_above c range t.doubles.weight steps.weight) no_sum z (score_over_most b)

  -- where all is on one side, at least the exact average less its 2^50th part and two units
  module _ (b : Bool) (no_y : part (not b) s.y ≡ 0) (no_u : part (not b) s.u ≡ 0) (no_v : part (not b) s.v ≡ 0) where
    chroma_least : Least (part b chroma) (part b s.u + part b s.v) 1
    chroma_least = add_least b s.u s.v t.doubles.cb t.doubles.cr no_u no_v steps.chroma

    product_least : Least (q * part b (c ⊗ chroma)) (p * part b chroma) q
    product_least = (mul_rounds 1 b c chroma c_within (add-fits binary64 s.u s.v) steps.product).1

    weighted_least : Least (part b (weighted_sum c s)) (part b s.y + part b (c ⊗ chroma)) 1
    unfolding weighted_sum
    weighted_least = add_least b s.y (c ⊗ chroma) t.doubles.luma (mul-fits binary64 c chroma) no_y (no_product (not b) no_y no_u no_v) steps.sum

    score_over_least : Least (n * part b (visual_score c s)) (z * part b (weighted_sum c s)) n
    unfolding visual_score
    score_over_least = (div_rounds b (weighted_sum c s) (whole_weight c) (sum_fits c s) w_positive t.given).1

    pub score_least : 2 ^ 50 * parts b ≤ 2 ^ 50 * (heft * part b (visual_score c s)) + (parts b + 2 ^ 51 * heft)
    score_least =
        quotient_least (q * n) (heft * z) (q * part b (weighted_sum c s)) (parts b) heft (heft * part b (visual_score c s)) common
        (whole_upto c range t.doubles.weight steps.weight)
        (widened_least q n z (part b (weighted_sum c s)) (part b (visual_score c s)) heft score_over_least)
        (sum_least (p * (part b s.u + part b s.v)) (p * part b chroma) (q * part b (c ⊗ chroma)) (q * part b s.y) (q * part b (weighted_sum c s)) p q
        (spread_least p (part b chroma) (part b s.u + part b s.v) chroma_least) product_least (joined_least q (part b (weighted_sum c s)) (part b s.y) (part b (c ⊗ chroma)) weighted_least))

-- What overflows on the way is not lost: where a figure is finite, so is every step that led to it. Of a quotient that holds where the weight is
-- finite, as that of a lawful c is; and, since the weight is at least 1, the quotient overflows nowhere else: HVS's 9, too, turns on the sum alone.
-- Assumes nothing.
use mathlib.Core.Path.{◌≡◌, refl, sym, ◌∙◌}
use mathlib.Core.Bool.{Bool, true, false}
use Prim.Native.Nat.{◌≤◌}
use native.Mathlib.Omega.{arith}
use lib.Dec.{T}
use lib.Ieee.{Float, binary64, fits, of_bits}
use lib.Ieee.Fits.{add-fits}
use lib.Ieee.Positive.{num, den, positive, le→cross}
use lib.Ieee.Scale.{finite}
use Rattle.number.specs.Literals.{one_d}
use Rattle.number.specs.Steps.{◌⊕◌, ◌⊗◌}
use Rattle.number.proofs.Overflow.{add_finite, mul_finite, div_finite}
use Rattle.number.proofs.Quotients.{over_finite}
use Rattle.combine.specs.declared.Planar.{Planar}
use Rattle.combine.specs.Combine.{weighted_sum, whole_weight, visual_score, combinable, combined_refusal, score_for, score_or, combined_hvs_of}
use Rattle.combine.proofs.Weight.{lawful, weight_bounds, weight_positive, weight_finite}

sum_steps : (c : Float) (s : Planar) → finite (weighted_sum c s) ≡ true → (finite (s.u ⊕ s.v) ≡ true) × (finite (c ⊗ (s.u ⊕ s.v)) ≡ true)
unfolding weighted_sum
sum_steps c s e =
    let product = (add_finite binary64 s.y (c ⊗ (s.u ⊕ s.v)) e).1 in
    ((mul_finite binary64 c (s.u ⊕ s.v) product).1, product)

pub sum_fits : (c : Float) (s : Planar) → T (fits binary64 (weighted_sum c s))
unfolding weighted_sum
sum_fits c s = add-fits binary64 s.y (c ⊗ (s.u ⊕ s.v))

-- every step of the HVS figure is finite
pub record Steps (c : Float) (s : Planar) : Type 0 where
  pub chroma : finite (s.u ⊕ s.v) ≡ true
  pub product : finite (c ⊗ (s.u ⊕ s.v)) ≡ true
  pub sum : finite (weighted_sum c s) ≡ true
  pub weight : finite (whole_weight c) ≡ true

module _ (c : Float) (s : Planar) (ok : combinable c s ≡ true) where
  pub score_steps : finite (visual_score c s) ≡ true → Steps c s
  unfolding visual_score
  score_steps e =
      let sum = div_finite binary64 (weighted_sum c s) (whole_weight c) (weight_finite c s ok) e in
      record { chroma = (sum_steps c s sum).0; product = (sum_steps c s sum).1; sum = sum; weight = weight_finite c s ok }

  positive_weight : T (positive (whole_weight c))
  positive_weight = weight_positive c (lawful c s ok).0 (lawful c s ok).1

  weight_from_one : den (whole_weight c) ≤ num (whole_weight c)
  unfolding of_bits
  weight_from_one = omega (arith, le→cross one_d (whole_weight c) tt positive_weight (weight_bounds c (lawful c s ok).0 (lawful c s ok).1).0)

  quotient_finite : finite (weighted_sum c s) ≡ true → finite (visual_score c s) ≡ true
  unfolding visual_score
  quotient_finite e = over_finite (weighted_sum c s) (whole_weight c) (sum_fits c s) e positive_weight weight_from_one

  score_finite : finite (weighted_sum c s) ≡ finite (visual_score c s)
  score_finite = go (finite (weighted_sum c s)) (finite (visual_score c s)) refl refl
    where
      go : (a b : Bool) → finite (weighted_sum c s) ≡ a → finite (visual_score c s) ≡ b → a ≡ b
      go true b p q = sym (quotient_finite p) ∙ q
      go false true p q = sym p ∙ (score_steps q).sum
      go false false p q = refl

-- HVS's 9 turns on its sum alone
pub hvs_by_sum : (c : Float) (s : Planar) → combined_hvs_of c s ≡ score_for (combined_refusal (combinable c s) (finite (weighted_sum c s))) (visual_score c s)
hvs_by_sum c s = go (combinable c s) refl
  where
    go : (b : Bool) → combinable c s ≡ b → score_or b (visual_score c s) ≡ score_for (combined_refusal b (finite (weighted_sum c s))) (visual_score c s)
    go true e = rw (score_finite c s e)
    go false e = refl

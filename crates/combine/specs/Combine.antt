-- SCOPE, "HVS, SSIM and scales", Combining: three planes' scores in one, each operation rounded once, and the two refusals of "When the
-- desk says no" that belong to it. Definitions only.
use Rattle.std.specs.Prelude.{Bool, ◌&&◌, [], ◌∷◌, Float, Result, Ok}
use Rattle.std.specs.Float.Ieee.{le}
use Rattle.std.specs.Float.Ieee.Scale.{finite}
use Rattle.refusal.specs.First.{Verdict, first_broken, unless_refused}
use Rattle.refusal.specs.declared.Refusal.{Refusal}
use Rattle.refusal.specs.declared.Refusal.TheVariants as no
use Rattle.number.specs.Literals.{zero_d, one_d, two_d}
use Rattle.number.specs.Steps.{◌⊕◌, ◌⊗◌, ◌⊘◌}
use Rattle.combine.specs.declared.Planar.{Planar}
use Rattle.combine.specs.declared.CombinedSsim.{CombinedSsim}

-- ---- the figures

-- y + c × (u + v)
unfoldable pub weighted_sum : Float → Planar → Float
weighted_sum c s = s.y ⊕ c ⊗ (s.u ⊕ s.v)

-- 1 + 2c
unfoldable pub whole_weight : Float → Float
whole_weight c = one_d ⊕ two_d ⊗ c

-- HVS: (y + c × (u + v)) / (1 + 2c)
unfoldable pub visual_score : Float → Planar → Float
visual_score c s = weighted_sum c s ⊘ whole_weight c

-- ---- the refusals

-- 13 is not given: the weight is from 0 to 1, which -0 is and not-a-number is not, and the three numbers are finite
unfoldable pub combinable : Float → Planar → Bool
combinable c s = le zero_d c && le c one_d && (finite s.y && finite s.u && finite s.v)

-- 13, then 9, which is given only where no other refusal applies; and none where neither is
abbrev pub combined_refusal : Bool → Bool → Verdict
combined_refusal lawful is_finite = first_broken ((no.Weight, lawful) ∷ (no.NotFinite, is_finite) ∷ [])

-- ---- the answers

abbrev pub sum_for : Verdict → Float → Float → Result CombinedSsim Refusal
sum_for v sum weight = unless_refused v (Ok (record { sum = sum; weight = weight }))

-- the sum and its weight, both finite, or the refusal
abbrev pub sum_or : Bool → Float → Float → Result CombinedSsim Refusal
sum_or lawful sum weight = sum_for (combined_refusal lawful (finite sum && finite weight)) sum weight

abbrev pub combined_ssim_of : Float → Planar → Result CombinedSsim Refusal
combined_ssim_of c s = sum_or (combinable c s) (weighted_sum c s) (whole_weight c)

abbrev pub score_for : Verdict → Float → Result Float Refusal
score_for v score = unless_refused v (Ok score)

-- the score, finite, or the refusal
abbrev pub score_or : Bool → Float → Result Float Refusal
score_or lawful score = score_for (combined_refusal lawful (finite score)) score

abbrev pub combined_hvs_of : Float → Planar → Result Float Refusal
combined_hvs_of c s = score_or (combinable c s) (visual_score c s)

-- Neither call tells u from v. Assumes nothing.
use mathlib.Core.Path.{◌≡◌, refl}
use mathlib.Core.Bool.{Bool, true, false, ◌&&◌}
use lib.Ieee.{Float, binary64, le}
use lib.Ieee.Scale.{finite}
use Rattle.number.specs.Literals.{zero_d, one_d}
use Rattle.number.proofs.Swap.{add_swap}
use Rattle.combine.specs.declared.Planar.{Planar}
use Rattle.combine.specs.Combine.{weighted_sum, visual_score, combinable, combined_ssim_of, combined_hvs_of}

-- u and v in each other's place
abbrev pub swapped : Planar → Planar
swapped s = record { y = s.y; u = s.v; v = s.u }

and_swap : (w a b c : Bool) → (w && (a && b && c)) ≡ (w && (a && c && b))
and_swap false a b c = refl
and_swap true false b c = refl
and_swap true true true true = refl
and_swap true true true false = refl
and_swap true true false true = refl
and_swap true true false false = refl

combinable_swap : (c : Float) (s : Planar) → combinable c s ≡ combinable c (swapped s)
unfolding combinable
combinable_swap c s = and_swap (le zero_d c && le c one_d) (finite s.y) (finite s.u) (finite s.v)

sum_swap : (c : Float) (s : Planar) → weighted_sum c s ≡ weighted_sum c (swapped s)
unfolding weighted_sum
sum_swap c s = rw (add_swap binary64 s.u s.v)

score_swap : (c : Float) (s : Planar) → visual_score c s ≡ visual_score c (swapped s)
unfolding visual_score
score_swap c s = rw (sum_swap c s)

pub ssim_swap : (c : Float) (s : Planar) → combined_ssim_of c s ≡ combined_ssim_of c (swapped s)
ssim_swap c s = rw (combinable_swap c s, sum_swap c s)

pub hvs_swap : (c : Float) (s : Planar) → combined_hvs_of c s ≡ combined_hvs_of c (swapped s)
hvs_swap c s = rw (combinable_swap c s, score_swap c s)

-- What the answers of combining are at the face: what is written. Definitions only.
use Rattle.std.specs.Prelude.{Float, Result}
use Rattle.refusal.specs.declared.Refusal.{Refusal}
use Rattle.combine.specs.declared.Planar.{Planar}
use Rattle.combine.specs.declared.CombinedSsim.{CombinedSsim}
use Rattle.fuavelino.specs.Answer.{written}

-- the scores of the three planes
abbrev pub planar : Float → Float → Float → Planar
planar y u v = record { y = y; u = u; v = v }

-- what then stands in the two places lent for SSIM: the sum and its weight
abbrev pub sum_written : Result CombinedSsim Refusal → Float → Float
sum_written = written (λ (s : CombinedSsim). s.sum)

abbrev pub weight_written : Result CombinedSsim Refusal → Float → Float
weight_written = written (λ (s : CombinedSsim). s.weight)

-- What the answer of SSIM is at the face: what is written. Definitions only.
use Rattle.std.specs.Prelude.{Float, Result}
use Rattle.refusal.specs.declared.Refusal.{Refusal}
use Rattle.ssim.specs.declared.Ssim.{Ssim}
use Rattle.fuavelino.specs.Answer.{written}

-- what then stands in the two places lent
abbrev pub ssim_written : Result Ssim Refusal → Float → Float
ssim_written = written (λ (s : Ssim). s.ssim)

abbrev pub cs_written : Result Ssim Refusal → Float → Float
cs_written = written (λ (s : Ssim). s.cs)

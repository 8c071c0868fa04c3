-- What the answer of MS-SSIM is at the face: what is written. Definitions only.
use Rattle.std.specs.Prelude.{List, [], ◌∷◌, Float, Result}
use Rattle.refusal.specs.declared.Refusal.{Refusal}
use Rattle.ssim.specs.declared.Ssim.{Ssim}
use Rattle.fuavelino.specs.Answer.{written}

-- ssim and cs of the first scale, then of the second, and so on
abbrev pub pairs_list : List Ssim → List Float
pairs_list [] = []
pairs_list (p ∷ l) = p.ssim ∷ p.cs ∷ pairs_list l

-- what then stands in the ten places lent
abbrev pub pairs_written : Result (List Ssim) Refusal → List Float → List Float
pairs_written = written pairs_list

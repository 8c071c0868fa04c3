-- What the answers about squared errors are at the face: a number, 0 where it is accepted, and what is written. Definitions only.
use Rattle.std.specs.Prelude.{map, ℕ, Result}
use Rattle.refusal.specs.declared.Refusal.{Refusal}
use Rattle.psnr.specs.declared.SquaredError.{SquaredError}
use Rattle.psnr.specs.declared.Total.{Total}
use Rattle.psnr.specs.declared.Summed.{Summed}
use Rattle.psnr.specs.Said.{error_said, series_said, figure_or, figures_of}

-- the refusal's number, and 0 where there is none
abbrev pub error_number : Result SquaredError Refusal → ℕ
error_number a = (error_said a).number

-- what then stands in the places lent: the record's figures, or what stood there
abbrev pub error_written : Result SquaredError Refusal → Total → Total
error_written a old = figure_or (map figures_of (error_said a).figure) old

-- the same of a series
abbrev pub series_number : Result Summed Refusal → ℕ
series_number a = (series_said a).number

abbrev pub series_written : Result Summed Refusal → Total → Total
series_written a old = figure_or (series_said a).figure old

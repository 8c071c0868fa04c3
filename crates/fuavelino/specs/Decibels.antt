-- What the answers in decibels are at the face: a number, 0 where it is accepted, and what is written. Definitions only.
use Rattle.std.specs.Prelude.{ℕ, Result}
use Rattle.refusal.specs.declared.Refusal.{Refusal}
use Rattle.psnr.specs.Said.{figure_or}
use Rattle.decibels.specs.declared.Decibels.{Decibels}
use Rattle.decibels.specs.Said.{decibels_told}

-- the refusal's number, and 0 where there is none
abbrev pub decibels_number : Result Decibels Refusal → ℕ
decibels_number a = (decibels_told a).number

-- what then stands in the places lent: the hundredths, and 1 where they stand for "identical", 0 where they are D; or what stood there
abbrev pub hundredths_written : Result Decibels Refusal → ℕ → ℕ
hundredths_written a old = figure_or (decibels_told a).hundredths old

abbrev pub identical_written : Result Decibels Refusal → ℕ → ℕ
identical_written a old = figure_or (decibels_told a).identical old

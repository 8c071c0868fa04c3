-- What the answer about the better of two candidates is at the face: what is written. Definitions only.
use Rattle.std.specs.Prelude.{ℕ, Float, Result}
use Rattle.refusal.specs.declared.Refusal.{Refusal}
use Rattle.better.specs.declared.Better.{Better}
use Rattle.better.specs.declared.Better.TheVariants.{First, Second}
use Rattle.fuavelino.specs.Answer.{written}

-- the candidates by number
abbrev pub first_no : ℕ
first_no = 1

abbrev pub second_no : ℕ
second_no = 2

-- the smaller error, and whose it is
abbrev pub smaller : Better → Float
smaller (First e) = e
smaller (Second e) = e

abbrev pub which : Better → ℕ
which (First e) = first_no
which (Second e) = second_no

-- what then stands in the two places lent
abbrev pub smaller_written : Result Better Refusal → Float → Float
smaller_written = written smaller

abbrev pub which_written : Result Better Refusal → ℕ → ℕ
which_written = written which

-- SCOPE, "Decibels": what each case of the answer says in numbers. Definitions only.
use Rattle.std.specs.Prelude.{List, [], ◌∷◌, ℕ, ◌*◌, Result, Ok, Err}
use Rattle.refusal.specs.declared.Refusal.{Refusal}
use Rattle.refusal.specs.Numbers.{number_of}
use Rattle.psnr.specs.Said.{identical_decibels}
use Rattle.decibels.specs.declared.Decibels.{Decibels}
use Rattle.decibels.specs.declared.Decibels.TheVariants.{Hundredths, Identical}

-- the refusal's number, 0 where there is none; the hundredths, where there are any; and beside them 1 where they stand for "identical", 0 where they are D
pub record Told : Type 0 where
  pub number : ℕ
  pub hundredths : List ℕ
  pub identical : List ℕ

-- the hundredths of the 100 decibels that stand for "identical"; D can be as many, so that it is told apart
unfoldable pub identical_hundredths : ℕ
unfolding identical_decibels
identical_hundredths = 100 * identical_decibels

abbrev pub decibels_told : Result Decibels Refusal → Told
decibels_told (Ok (Hundredths d)) = record { number = 0; hundredths = d ∷ []; identical = 0 ∷ [] }
decibels_told (Ok Identical) = record { number = 0; hundredths = identical_hundredths ∷ []; identical = 1 ∷ [] }
decibels_told (Err r) = record { number = number_of r; hundredths = []; identical = [] }

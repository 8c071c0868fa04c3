-- SCOPE, "Squared error": what each case of an answer says in numbers. Beside an error of 0 that is "identical", and 100: the decibels that
-- stand for it, since its own would be without end. Definitions only.
use Rattle.std.specs.Prelude.{ℕ, List, [], ◌∷◌, Result, Ok, Err}
use Rattle.refusal.specs.declared.Refusal.{Refusal}
use Rattle.refusal.specs.Numbers.{number_of}
use Rattle.psnr.specs.declared.Record.{Record}
use Rattle.psnr.specs.declared.SquaredError.{SquaredError}
use Rattle.psnr.specs.declared.SquaredError.TheVariants as compared
use Rattle.psnr.specs.declared.Total.{Total}
use Rattle.psnr.specs.declared.Summed.{Summed}
use Rattle.psnr.specs.declared.Summed.TheVariants as summed

-- the refusal's number, 0 where there is none; the record or the total, where there is one; and the decibels beside it, where it is identical
pub record Said (A : Type 0) : Type 0 where
  pub number : ℕ
  pub figure : List A
  pub decibels : List ℕ

-- what identical planes, and a series of them, are said to have
unfoldable pub identical_decibels : ℕ
identical_decibels = 100

module _ {A : Type 0} where
  -- the three cases, of any figure
  abbrev pub said_differs : A → Said A
  said_differs a = record { number = 0; figure = a ∷ []; decibels = [] }

  abbrev pub said_identical : A → Said A
  said_identical a = record { number = 0; figure = a ∷ []; decibels = identical_decibels ∷ [] }

  abbrev pub said_refused : ℕ → Said A
  said_refused k = record { number = k; figure = []; decibels = [] }

  -- what stands in places that are lent for the figure: it, where there is one, else what stood there
  abbrev pub figure_or : List A → A → A
  figure_or [] old = old
  figure_or (a ∷ more) old = a

-- the figures of a record, apart from whose they are
abbrev pub figures_of : Record → Total
figures_of r = record { sq_err = r.sq_err; n = r.n; sample_max = r.sample_max }

-- what the two answers say, case by case
abbrev pub error_said : Result SquaredError Refusal → Said Record
error_said (Ok (compared.Differs r)) = said_differs r
error_said (Ok (compared.Identical r)) = said_identical r
error_said (Err k) = said_refused (number_of k)

abbrev pub series_said : Result Summed Refusal → Said Total
series_said (Ok (summed.Differs t)) = said_differs t
series_said (Ok (summed.Identical t)) = said_identical t
series_said (Err k) = said_refused (number_of k)

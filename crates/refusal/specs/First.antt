-- SCOPE, "When the desk says no": of the refusals that apply and belong to a call the one with the lowest number is given. A call lists its
-- tests in ascending order of these numbers, each refusal beside whether its test passes. Definitions only.
use Rattle.std.specs.Prelude.{Bool, true, false, cond, List, [], ◌∷◌, ℕ, leb, Result, Ok, Err}
use Rattle.refusal.specs.declared.Refusal.{Refusal}
use Rattle.refusal.specs.Numbers.{number_of}

-- what the tests of a call say: nothing, or why it refuses
abbrev pub Verdict : Type 0
Verdict = Result (Unit {0}) Refusal

-- r where its test fails; else what the later tests say
abbrev pub unless : Bool → Refusal → Verdict → Verdict
unless true r later = later
unless false r later = Err r

-- the first refusal whose test fails, and none where every test passes
abbrev pub first_broken : List (Refusal × Bool) → Verdict
first_broken [] = Ok tt
first_broken (t ∷ later) = unless t.1 t.0 (first_broken later)

-- of two answers the one that is told: a refusal before none, and of two the one with the lower number
abbrev pub lower_of : Verdict → Verdict → Verdict
lower_of (Ok _) b = b
lower_of (Err x) (Ok _) = Err x
lower_of (Err x) (Err y) = Err (cond (leb (number_of x) (number_of y)) x y)

module _ {A : Type 0} where
  -- what a call gives, or leaves, by its refusal: one thing where there is none, another where there is one
  abbrev pub by_refusal : Verdict → A → A → A
  by_refusal (Ok _) accepted refused = accepted
  by_refusal (Err r) accepted refused = refused

  -- the answer of a call: its refusal where there is one, else its score
  abbrev pub unless_refused : Verdict → Result A Refusal → Result A Refusal
  unless_refused (Ok _) score = score
  unless_refused (Err r) score = Err r

  -- the number of an answer, as other languages are told: 0 where nothing is refused
  abbrev pub answer_number : Result A Refusal → ℕ
  answer_number (Ok x) = 0
  answer_number (Err r) = number_of r

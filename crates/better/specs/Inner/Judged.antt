-- What one pair of planes is found to be, the answer that two such findings make, and a contest of planes as the code
-- has them. Definitions only.
use Rattle.std.specs.Prelude.{Bool, cond, leb, ℕ, Result, Ok, Err}
use Rattle.refusal.specs.declared.Refusal.{Refusal}
use Rattle.refusal.specs.Numbers.{number_of}
use Rattle.refusal.specs.First.{unless_refused}
use Rattle.plane.specs.declared.Format.{Format}
use Rattle.plane.specs.declared.Plane as code
use Rattle.plane.specs.Plane.{Planes}
use Rattle.plane.specs.Tests.{pair_refusal}
use Rattle.plane.specs.Inner.Seen.{sized, seen}
use Rattle.psnr.specs.Squared.{squared_error_score}
use Rattle.better.specs.declared.Better.{Better}
use Rattle.better.specs.Better.{Contest, smaller_of}

-- how far two planes are apart, or why that is not told
abbrev pub judged_of : Planes → Result ℕ Refusal
judged_of p = unless_refused (pair_refusal p 0) (Ok (squared_error_score p))

-- of two refusals the one with the lower number
abbrev pub least_of : Refusal → Refusal → Refusal
least_of x y = cond (leb (number_of x) (number_of y)) x y

-- of two findings the answer
abbrev pub decided : Result ℕ Refusal → Result ℕ Refusal → Result Better Refusal
decided (Ok first) (Ok second) = Ok (smaller_of first second)
decided (Ok first) (Err y) = Err y
decided (Err x) (Ok second) = Err x
decided (Err x) (Err y) = Err (least_of x y)

-- an original and two candidates as the code has them
abbrev pub contest_of : {S : Type 0} → (S → ℕ) → Bool → Format → code.Plane S → code.Plane S → code.Plane S → Contest
contest_of value wide format o a b =
    record { size = sized wide format; original = seen value o; first = seen value a; second = seen value b }

-- SCOPE, "Which build is better": of two candidates the one with the smaller squared error against the original. Definitions only.
use Rattle.std.specs.Prelude.{Bool, cond, List, [], ◌∷◌, ℕ, ltb, Result, Ok, Err}
use Rattle.std.specs.Borrow.{Bor}
use Rattle.refusal.specs.declared.Refusal.{Refusal}
use Rattle.refusal.specs.First.{Verdict, unless_refused}
use Rattle.number.specs.Steps.{double}
use Rattle.plane.specs.Plane.{Size, Plane, plane_of, size_of, Planes, planes_of}
use Rattle.plane.specs.Tests.{plane_refusal}
use Rattle.psnr.specs.Squared.{squared_error_score}
use Rattle.better.specs.declared.Better.{Better}
use Rattle.better.specs.declared.Better.TheVariants.{First, Second}

-- ---- what is asked

-- an original and two candidates, and what the three share
pub record Contest : Type 0 where
  pub size : Size
  pub original : Plane
  pub first : Plane
  pub second : Plane

-- that of a call that is lent bytes or words, its parameters as they stand
abbrev pub contest : Bool → Bor (List ℕ) → Bor (List ℕ) → Bor (List ℕ) → ℕ → ℕ → ℕ → ℕ → ℕ → ℕ → Contest
contest wide o a b width height stride_o stride_a stride_b depth =
    record {
      size = size_of wide width height depth;
      original = plane_of o.now stride_o;
      first = plane_of a.now stride_a;
      second = plane_of b.now stride_b;
    }

-- the original beside each candidate
abbrev pub first_pair : Contest → Planes
first_pair c = planes_of c.size c.original c.first

abbrev pub second_pair : Contest → Planes
second_pair c = planes_of c.size c.original c.second

-- the squared error of each
abbrev pub first_error : Contest → ℕ
first_error c = squared_error_score (first_pair c)

abbrev pub second_error : Contest → ℕ
second_error c = squared_error_score (second_pair c)

-- ---- what is answered

-- of two errors the smaller, as the double that a record has, and whose it is: the first's on a tie
abbrev pub smaller_of : ℕ → ℕ → Better
smaller_of first second = cond (ltb second first) (Second (double second)) (First (double first))

-- the lowest of 1 2 4 5 6 that applies to any of the three planes
abbrev pub better_refusal : Contest → Verdict
better_refusal c = plane_refusal c.size (c.original ∷ c.first ∷ c.second ∷ []) 0

unfoldable pub better_of : Contest → Result Better Refusal
better_of c = unless_refused (better_refusal c) (Ok (smaller_of (first_error c) (second_error c)))

-- ---- what is handed back

-- the samples of the candidate that is better, all that were lent; none where the call refuses
abbrev pub handed : Result Better Refusal → List ℕ → List ℕ → List ℕ
handed (Ok (First e)) first second = first
handed (Ok (Second e)) first second = second
handed (Err r) first second = []

abbrev pub winner_of : Contest → List ℕ
winner_of c = handed (better_of c) c.first.samples c.second.samples

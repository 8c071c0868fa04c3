-- SCOPE, "Squared error": the sum, the record and the answer of a call. Definitions only.
use Rattle.std.specs.Prelude.{ℕ, zero, suc, ◌+◌, ◌-◌, ◌*◌, Bool, List, [], ◌∷◌, ◌++◌, Result, Ok}
use Rattle.refusal.specs.declared.Refusal.{Refusal}
use Rattle.refusal.specs.declared.Refusal.TheVariants as no
use Rattle.refusal.specs.First.{Verdict, first_broken, unless_refused}
use Rattle.number.specs.Steps.{double}
use Rattle.plane.specs.Plane.{Planes, max_of, sample_at}
use Rattle.plane.specs.Sums.{sum_to}
use Rattle.plane.specs.Tests.{pair_tests}
use Rattle.psnr.specs.declared.Record.{Record}
use Rattle.psnr.specs.declared.SquaredError.{SquaredError}
use Rattle.psnr.specs.declared.SquaredError.TheVariants.{Differs, Identical}
use Rattle.psnr.specs.Record.{plane_suits}

-- how far a and b are apart: one of the two differences is 0
abbrev pub apart : ℕ → ℕ → ℕ
apart a b = a - b + (b - a)

-- (a - b)²
unfoldable pub square_of : ℕ → ℕ → ℕ
square_of a b = apart a b * apart a b

-- its sum over the first n samples of row y
unfoldable pub row_error : Planes → ℕ → ℕ → ℕ
row_error p n y = sum_to (λ (x : ℕ). square_of (sample_at p.a y x) (sample_at p.b y x)) n

-- and over the visible samples of the first n rows
unfoldable pub error_to : Planes → ℕ → ℕ
error_to p n = sum_to (row_error p p.size.width) n

-- and over all visible samples
abbrev pub squared_error_score : Planes → ℕ
squared_error_score p = error_to p p.size.height

-- the record: the squared error as a double, beside the count of samples and the largest that one can be, and the frame and plane that the call is told
abbrev pub record_of : Planes → ℕ → ℕ → Record
record_of p frame plane =
    record {
      sq_err = double (squared_error_score p);
      n = p.size.width * p.size.height;
      sample_max = max_of p.size.depth;
      frame = frame;
      plane = plane;
    }

-- what is told of them, from the error and the record: an error of 0 is told apart
abbrev pub error_answer : ℕ → Record → SquaredError
error_answer zero r = Identical r
error_answer (suc e) r = Differs r

-- 1 2 4 5 6 and 10, in ascending order: 3 does not belong to this call, so that the least side is 0
abbrev pub squared_error_tests : Planes → ℕ → List (Refusal × Bool)
squared_error_tests p plane = pair_tests p 0 ++ (no.Record, plane_suits plane) ∷ []

abbrev pub squared_error_refusal : Planes → ℕ → Verdict
squared_error_refusal p plane = first_broken (squared_error_tests p plane)

unfoldable pub squared_error_of : Planes → ℕ → ℕ → Result SquaredError Refusal
squared_error_of p frame plane =
    unless_refused (squared_error_refusal p plane) (Ok (error_answer (squared_error_score p) (record_of p frame plane)))

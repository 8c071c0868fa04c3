-- SCOPE, "Rows as they arrive": begin. Definitions only.
use Rattle.std.specs.Prelude.{Bool, List, ◌++◌, ℕ, ℤ, pos, length, Result, Ok}
use Rattle.refusal.specs.declared.Refusal.{Refusal}
use Rattle.refusal.specs.First.{Verdict, first_broken, by_refusal, unless_refused}
use Rattle.plane.specs.Plane.{Size}
use Rattle.plane.specs.Tests.{size_tests}
use Rattle.ssim.specs.Answer.{lent_tests}
use Rattle.ssim.specs.Scratch.{scratch_places, cleared}
use Rattle.ssim.specs.Score.{no_totals}
use Rattle.rowfed.specs.declared.State.{State}
use Rattle.rowfed.specs.State.{held_kernel}

-- 1 2 7 8 in ascending order: what the planes will share, the kernel, and how many places of scratch are lent
unfoldable pub begin_tests : Size → List ℕ → ℕ → List (Refusal × Bool)
begin_tests size ker lent = size_tests size 0 ++ lent_tests size.width ker lent

abbrev pub begin_refusal : Size → List ℕ → ℕ → Verdict
begin_refusal size ker lent = first_broken (begin_tests size ker lent)

-- no row has come
abbrev pub begun_state : Size → List ℕ → State
begun_state size ker =
    record {
      width = size.width;
      height = size.height;
      depth = size.depth;
      taps = length ker;
      kernel = held_kernel ker;
      rows = 0;
      scored = 0;
      sums = no_totals;
    }

-- the answer: the state, unless it is refused
abbrev pub begin_of : Size → List ℕ → List ℤ → Result State Refusal
begin_of size ker scratch = unless_refused (begin_refusal size ker (length scratch)) (Ok (begun_state size ker))

-- what then stands in the scratch: refused, what stood there; else the needed part is zero
abbrev pub scratch_begun : Size → List ℕ → List ℤ → List ℤ
scratch_begun size ker scratch =
    by_refusal (begin_refusal size ker (length scratch)) (cleared (pos 0) (scratch_places size.width (length ker)) scratch) scratch

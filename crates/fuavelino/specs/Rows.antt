-- Rows as they arrive, at the face: a state is three lent arrays, six numbers, the kernel's places and three sums. Definitions only.
use Rattle.std.specs.Prelude.{Bool, List, [], ◌∷◌, ℕ, Float, ℤ, length, get_or, Result}
use Rattle.std.specs.Float.{nan}
use Rattle.std.specs.Borrow.{Bor}
use Rattle.refusal.specs.declared.Refusal.{Refusal}
use Rattle.refusal.specs.First.{Verdict}
use Rattle.plane.specs.Plane.{Planes, plane_of, at}
use Rattle.rowfed.specs.declared.State.{State}
use Rattle.rowfed.specs.Feed.{fed_rows, feed_refusal, state_fed, scratch_fed}
use Rattle.fuavelino.specs.Answer.{written}

-- width, height, depth, taps, rows that have come, rows that are scored
abbrev pub numbers_of : State → List ℕ
numbers_of s = s.width ∷ s.height ∷ s.depth ∷ s.taps ∷ s.rows ∷ s.scored ∷ []

-- the running sums of ssim, cs and ssimw
abbrev pub sums_of : State → List Float
sums_of s = s.sums.ssim ∷ s.sums.cs ∷ s.sums.ssimw ∷ []

-- the state that stands in three arrays: the numbers as they are, however large
abbrev pub state_in : List ℕ → List ℕ → List Float → State
state_in numbers kernel sums =
    record {
      width = at numbers 0;
      height = at numbers 1;
      depth = at numbers 2;
      taps = at numbers 3;
      kernel = kernel;
      rows = at numbers 4;
      scored = at numbers 5;
      sums = record { ssim = get_or sums 0 nan; cs = get_or sums 1 nan; ssimw = get_or sums 2 nan };
    }

-- of the arrays that are lent
abbrev pub lent_state : List ℕ → List ℕ → List Float → State
lent_state numbers kernel sums = state_in numbers kernel sums

-- a feed to a state, of bytes or of words, its parameters as they stand: its refusal, the state then, and what is left in the scratch
module _ (wide : Bool) (s : State) (a b : Bor (List ℕ)) (stride_a stride_b rows : ℕ) (scratch : List ℤ) where
  abbrev pub lent_rows : Planes
  lent_rows = fed_rows wide s (plane_of a.now stride_a) (plane_of b.now stride_b) rows

  abbrev pub fed_to : Verdict
  fed_to = feed_refusal s lent_rows (length scratch)

  abbrev pub state_by : State
  state_by = state_fed s lent_rows scratch

  abbrev pub left_by : List ℤ
  left_by = scratch_fed s lent_rows scratch

-- what a begin then leaves in the three arrays: the state's parts, or what stood there
abbrev pub numbers_written : Result State Refusal → List ℕ → List ℕ
numbers_written = written numbers_of

abbrev pub kernel_written : Result State Refusal → List ℕ → List ℕ
kernel_written = written (λ (s : State). s.kernel)

abbrev pub sums_written : Result State Refusal → List Float → List Float
sums_written = written sums_of

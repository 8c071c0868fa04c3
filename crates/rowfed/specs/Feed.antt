-- SCOPE, "Rows as they arrive": feed. The rows of a feed are two planes of that height. Definitions only.
use Rattle.std.specs.Prelude.{Bool, ◌||◌, List, [], ◌∷◌, ◌++◌, ℕ, ◌+◌, ◌-◌, ◌*◌, ◌/◌, eqb, leb, ℤ, pos, length, take, drop, replicate}
use Rattle.refusal.specs.declared.Refusal.{Refusal}
use Rattle.refusal.specs.declared.Refusal.TheVariants as no
use Rattle.refusal.specs.First.{Verdict, first_broken, by_refusal}
use Rattle.plane.specs.Plane.{Plane, Planes, size_of, planes_of, both, every}
use Rattle.plane.specs.Tests.{stride_suits, long_enough, samples_suit}
use Rattle.ssim.specs.declared.Totals.{Totals}
use Rattle.row_ring.specs.Taken.{scored_after, Kept, taken_of}
use Rattle.row_ring.specs.Ring.{ring_places}
use Rattle.rowfed.specs.declared.State.{State}
use Rattle.rowfed.specs.State.{possible, kernel_of, ring_of, max2_of, places_of}

-- the rows of a feed that is lent bytes or words, its parameters as they stand: the width and the depth are the state's
abbrev pub fed_rows : Bool → State → Plane → Plane → ℕ → Planes
fed_rows wide s a b rows = planes_of (size_of wide s.width rows s.depth) a b

-- 4 5 6 of the rows; no rows need no samples
unfoldable pub rows_tests : Planes → List (Refusal × Bool)
rows_tests g =
    (no.Stride, every (λ (p : Plane). stride_suits g.size.width p.stride) (both g))
    ∷ (no.Short, eqb g.size.height 0 || every (long_enough g.size) (both g))
    ∷ (no.Sample, every (samples_suit g.size) (both g))
    ∷ []

-- 8, and the late 15: rows past the height
unfoldable pub late_tests : State → ℕ → ℕ → List (Refusal × Bool)
late_tests s rows lent = (no.Scratch, leb (places_of s) lent) ∷ (no.State, leb (s.rows + rows) s.height) ∷ []

-- an impossible state goes before all else; the others go by the lowest number
unfoldable pub feed_tests : State → Planes → ℕ → List (Refusal × Bool)
feed_tests s g lent = (no.State, possible g.size.wide s) ∷ rows_tests g ++ late_tests s g.size.height lent

abbrev pub feed_refusal : State → Planes → ℕ → Verdict
feed_refusal s g lent = first_broken (feed_tests s g lent)

-- ---- the rows taken

-- the places that are used, of those that are needed: the ring, then five sums for each column, and for half a kernel of columns before and
-- after
abbrev pub used_places : State → ℕ
used_places s = ring_places (ring_of s) + 5 * (s.width + 2 * (length (kernel_of s) / 2))

-- the ring as it stands, and zeros past it, whatever the caller left there
abbrev pub tidied : State → List ℤ → List ℤ
tidied s scratch = take (ring_places (ring_of s)) scratch ++ replicate (used_places s - ring_places (ring_of s)) (pos 0)

-- what is kept after every row
abbrev pub taken_in : State → Planes → List ℤ → Kept
taken_in s g scratch =
    taken_of (max2_of s) (kernel_of s) (ring_of s) g s.rows (record { places = tidied s scratch; totals = s.sums }) g.size.height

-- the state with so many more rows, and these sums
abbrev pub with_rows : State → ℕ → Totals → State
with_rows s rows t =
    record {
      width = s.width;
      height = s.height;
      depth = s.depth;
      taps = s.taps;
      kernel = s.kernel;
      rows = s.rows + rows;
      scored = scored_after (s.rows + rows) s.height (s.taps / 2);
      sums = t;
    }

-- ---- what a feed leaves

-- the state: refused, as it was
abbrev pub state_fed : State → Planes → List ℤ → State
state_fed s g scratch =
    by_refusal (feed_refusal s g (length scratch)) (with_rows s g.size.height (taken_in s g scratch).totals) s

-- what then stands in the scratch: refused, what stood there; else the used part is the engine's, the rest as it was
abbrev pub scratch_fed : State → Planes → List ℤ → List ℤ
scratch_fed s g scratch =
    by_refusal (feed_refusal s g (length scratch)) ((taken_in s g scratch).places ++ drop (used_places s) scratch) scratch

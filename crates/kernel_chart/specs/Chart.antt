-- SCOPE, "The chart of kernels": what the call answers and writes for every height. Definitions only.
use Rattle.std.specs.Prelude.{Bool, false, cond, ◌||◌, List, [], ◌∷◌, ◌++◌, ℕ, eqb, leb, length, drop, Result, Ok}
use Rattle.refusal.specs.First.{Verdict, first_broken, by_refusal, unless_refused}
use Rattle.refusal.specs.declared.Refusal.{Refusal}
use Rattle.refusal.specs.declared.Refusal.TheVariants as no
use Rattle.kernel_chart.specs.Rows.{Row, chart}

-- whether one of the rows has this height
abbrev pub listed_in : List Row → ℕ → Bool
listed_in [] height = false
listed_in (row ∷ later) height = eqb height row.0 || listed_in later height

-- the taps beside it, in the first row that has it; none where no row has
abbrev pub taps_in : List Row → ℕ → List ℕ
taps_in [] height = []
taps_in (row ∷ later) height = cond (eqb height row.0) row.1 (taps_in later height)

-- the same of the chart
unfoldable pub listed : ℕ → Bool
listed height = listed_in chart height

unfoldable pub kernel_of : ℕ → List ℕ
kernel_of height = taps_in chart height

-- 8 where the kernel has more taps than there are places: never for a height that is not listed, since that has no taps. Then 14, where it is not listed
unfoldable pub chart_tests : ℕ → ℕ → List (Refusal × Bool)
chart_tests height places = (no.Scratch, leb (length (kernel_of height)) places) ∷ (no.Height, listed height) ∷ []

abbrev pub chart_refusal : ℕ → ℕ → Verdict
chart_refusal height places = first_broken (chart_tests height places)

-- the answer, by the refusal: the count of taps where there is none
abbrev pub answer_by : Verdict → ℕ → Result ℕ Refusal
answer_by v count = unless_refused v (Ok count)

-- what then stands in the places lent: the kernel, and what stood past it; or what stood there
abbrev pub after_by : Verdict → List ℕ → List ℕ → List ℕ
after_by v ker old = by_refusal v (ker ++ drop (length ker) old) old

-- both, of a call that lends these places
unfoldable pub charted_of : ℕ → List ℕ → Result ℕ Refusal
charted_of height old = answer_by (chart_refusal height (length old)) (length (kernel_of height))

unfoldable pub taps_after : ℕ → List ℕ → List ℕ
taps_after height old = after_by (chart_refusal height (length old)) (kernel_of height) old

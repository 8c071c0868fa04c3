-- Every kernel of the chart is lawful, and so is what the call writes. Assumes nothing.
use mathlib.Core.Path.{◌≡◌, refl, sym}
use mathlib.Core.Bool.{Bool, true, false, ◌&&◌, ◌||◌, cond, true≢false}
use mathlib.Core.List.{List, [], ◌∷◌}
use Prim.Native.Nat.{ℕ, ◌≤◌}
use native.Mathlib.Omega.{arith}
use borrow.Author.Tests.{le-leb}
use lib.Dec.{eqb}
use lib.ListN.{length, take}
use lib.Seq.{take-append_seam}
use Rattle.std.specs.Prelude.{Ok, Err}
use Rattle.refusal.specs.declared.Refusal.TheVariants.{Scratch}
use Rattle.refusal.proofs.Chain.{and_left, and_right, passed}
use Rattle.kernel.specs.Kernel.{most_taps, lent_total, lawful}
use Rattle.kernel.proofs.Computed.{computed}
use Rattle.kernel.proofs.Says.{kernel_says}
use Rattle.kernel_chart.specs.Rows.{Row, chart}
use Rattle.kernel_chart.specs.Chart.{listed_in, taps_in, listed, kernel_of, chart_tests, chart_refusal, charted_of, taps_after}
use Rattle.kernel_chart.specs.Inner.Room.{room_refusal}
use Rattle.kernel_chart.proofs.Answer.{unlisted_fourteen, listed_room}

-- ---- the chart

-- the taps of every row pass a test
abbrev pub every_row : (List ℕ → Bool) → List Row → Bool
every_row f [] = true
every_row f (row ∷ later) = f row.1 && every_row f later

-- one fact over the whole chart, computed: whatever `lawful` comes to ask, it is asked of every row
pub chart_lawful : every_row (lawful lent_total) chart ≡ true
unfolding computed chart
chart_lawful = refl

-- no height stands twice: each row's finds that row's kernel
abbrev found_by : List Row → List (List ℕ)
found_by [] = []
found_by (row ∷ later) = kernel_of row.0 ∷ found_by later

abbrev kernels_in : List Row → List (List ℕ)
kernels_in [] = []
kernels_in (row ∷ later) = row.1 ∷ kernels_in later

pub rows_found : found_by chart ≡ kernels_in chart
unfolding kernel_of chart
rows_found = refl

-- ---- what is so of every row is so of the one that a listed height finds
every_listed : (f : List ℕ → Bool) (rows : List Row) (height : ℕ) → every_row f rows ≡ true → listed_in rows height ≡ true → f (taps_in rows height) ≡ true
every_listed f [] height e l = absurd (true≢false (sym l))
every_listed f (row ∷ later) height e l =
    go (eqb height row.0) l (every_listed f later height (and_right (f row.1) _ e))
  where
    go : (b : Bool) → (b || listed_in later height) ≡ true → (listed_in later height ≡ true → f (taps_in later height) ≡ true)
        → f (cond b row.1 (taps_in later height)) ≡ true
    go true l g = and_left (f row.1) _ e
    go false l g = g l

pub charted_lawful : (height : ℕ) → listed height ≡ true → lawful lent_total (kernel_of height) ≡ true
unfolding listed kernel_of
charted_lawful height l = every_listed (lawful lent_total) chart height chart_lawful l

-- ---- a call that is not refused
module _ (height : ℕ) (old : List ℕ) (e : chart_refusal height (length old) ≡ Ok tt) where
  accepted_listed : listed height ≡ true
  unfolding chart_tests
  accepted_listed = (passed (chart_tests height (length old)) e).1.0

  -- wrote the kernel, whose taps it counts
  pub written : take (length (kernel_of height)) (taps_after height old) ≡ kernel_of height
  unfolding taps_after
  written = rw e (take-append_seam (kernel_of height) _)

  pub answered : charted_of height old ≡ Ok (length (kernel_of height))
  unfolding charted_of
  answered = rw e

  pub written_lawful : lawful lent_total (take (length (kernel_of height)) (taps_after height old)) ≡ true
  written_lawful = rw written (charted_lawful height accepted_listed)

-- ---- who lends room for the most taps that a lawful kernel has is never told that it is too short
pub chart_enough : (height places : ℕ) → most_taps ≤ places → chart_refusal height places ≡ Err Scratch → ⊥
chart_enough height places enough h = go (listed height) refl
  where
    go : (b : Bool) → listed height ≡ b → ⊥
    go true e =
        let room : length (kernel_of height) ≤ places = omega (arith, enough, (kernel_says lent_total (kernel_of height) (charted_lawful height e)).short) in
        let none : room_refusal (length (kernel_of height)) places ≡ Ok tt = rw (le-leb _ _ room) in
        cc (h, listed_room height places e, none)
    go false e = cc (h, unlisted_fourteen height places e)

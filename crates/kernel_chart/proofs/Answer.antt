-- Which number the call gives, and what it answers and leaves with it. Assumes nothing.
use mathlib.Core.Path.{◌≡◌, refl, ◌∙◌}
use mathlib.Core.Bool.{Bool, true, false, cond, ◌||◌}
use mathlib.Core.List.{List, [], ◌∷◌}
use Prim.Native.Nat.{ℕ, ◌+◌, ◌-◌, ◌≤◌}
use native.Mathlib.Omega.{arith}
use borrow.Author.Tests.{le-leb}
use lib.Dec.{eqb}
use lib.ListN.{length, get_or, drop}
use lib.Seq.{get_or-append-add, get_or-drop}
use Rattle.std.specs.Prelude.{Ok, Err}
use Rattle.refusal.specs.First.{Verdict}
use Rattle.refusal.specs.declared.Refusal.TheVariants.{Height}
use Rattle.kernel_chart.specs.Rows.{Row}
use Rattle.kernel_chart.specs.Chart.{listed_in, taps_in, listed, kernel_of, chart_tests, chart_refusal, after_by, taps_after}
use Rattle.kernel_chart.specs.Inner.Room.{room_refusal}

-- a height that is not listed has no taps
no_taps : (rows : List Row) (height : ℕ) → listed_in rows height ≡ false → taps_in rows height ≡ []
no_taps [] height e = refl
no_taps (row ∷ later) height e = go (eqb height row.0) e (no_taps later height)
  where
    go : (b : Bool) → (b || listed_in later height) ≡ false → (listed_in later height ≡ false → taps_in later height ≡ [])
        → cond b row.1 (taps_in later height) ≡ []
    go true e f = cc
    go false e f = f e

-- so it is refused with 14, whatever is lent
pub unlisted_fourteen : (height places : ℕ) → listed height ≡ false → chart_refusal height places ≡ Err Height
unfolding chart_tests listed kernel_of
unlisted_fourteen height places e = rw (no_taps _ height e, le-leb 0 places (omega arith), e)

-- of one that is listed only the room is judged
pub listed_room : (height places : ℕ) → listed height ≡ true → chart_refusal height places ≡ room_refusal (length (kernel_of height)) places
unfolding chart_tests
listed_room height places e = rw e

-- places past the kernel, and all where the call refuses, stay
pub past_stays : (height : ℕ) (old : List ℕ) (k : ℕ) → length (kernel_of height) ≤ k → get_or (taps_after height old) k 0 ≡ get_or old k 0
unfolding taps_after
past_stays height old k l = go (chart_refusal height (length old))
  where
    go : (v : Verdict) → get_or (after_by v (kernel_of height) old) k 0 ≡ get_or old k 0
    go (Ok _) =
        let count : ℕ = length (kernel_of height) in
        let q : count + (k - count) ≡ k = omega (arith, l) in
        rw q at (get_or-append-add (kernel_of height) (drop count old) (k - count) 0 ∙ get_or-drop count old (k - count) 0)
    go (Err r) = refl

-- What the call for a height finds among the rows. Assumes nothing.
use mathlib.Core.Path.{◌≡◌, refl, sym, subst}
use mathlib.Core.Bool.{Bool, true, false, cond}
use mathlib.Core.List.{List, [], ◌∷◌, map}
use Prim.Native.Nat.{ℕ}
use borrow.Author.Tests.{eqb-true, eqb-false, eq-eqb, ne_eqb}
use lib.Dec.{eqb}
use lib.ListN.{length}
use Rattle.std.specs.Borrow.{Bor}
use Rattle.std.specs.List.{find}
use Rattle.std.specs.Prelude.{Option, Some, None, Err, MatchOption, ◌==◌, option_copied}
use Rattle.refusal.specs.declared.Refusal.TheVariants.{Height}
use Rattle.kernel_chart.specs.declared.rows.Row.{Row}
use Rattle.kernel_chart.specs.Rows as spec
use Rattle.kernel_chart.specs.Chart.{listed_in, taps_in, listed, kernel_of, charted_of, taps_after, answer_by, after_by}
use Rattle.kernel_chart.specs.Inner.Room.{room_refusal}
use Rattle.kernel_chart.proofs.Answer.{unlisted_fourteen, listed_room}

-- ---- the first row that has the height

abbrev told : Row → spec.Row
told row = (row.height, row.taps.now)

abbrev Found : List spec.Row → ℕ → Option Row → Type 0
Found chart height r = MatchOption r (listed_in chart height ≡ false) (λ row. (listed_in chart height ≡ true) × (row.taps.now ≡ taps_in chart height))

first : (rows : List Row) (height : ℕ) → Found (map told rows) height (find (λ row. row.height == height) rows)
first [] height = refl
first (row ∷ later) height = go (eqb row.height height) refl (first later height)
  where
    go : (b : Bool) → eqb row.height height ≡ b → Found (map told later) height (find (λ row. row.height == height) later)
        → Found (map told (row ∷ later)) height (cond b (Some row) (find (λ row. row.height == height) later))
    go true e f = rw (eq-eqb height row.height (sym (eqb-true _ _ e))) (refl, refl)
    go false e f = rw (ne_eqb height row.height (λ q. eqb-false _ _ e (sym q))) f

pub found : (rows : List Row) (height : ℕ) (r : Option (Bor Row)) → map told rows ≡ spec.chart → option_copied r ≡ find (λ row. row.height == height) rows
    → MatchOption r (listed height ≡ false) (λ row. (listed height ≡ true) × (row.now.taps.now ≡ kernel_of height))
unfolding listed kernel_of
found rows height None all e = subst (λ c. Found c height None) all (subst (Found (map told rows) height) (sym e) (first rows height))
found rows height (Some row) all e = subst (λ c. Found c height (Some row.now)) all (subst (Found (map told rows) height) (sym e) (first rows height))

-- ---- no row has the height
module _ (height : ℕ) (old : List ℕ) (none : listed height ≡ false) where
  pub unlisted_answer : charted_of height old ≡ Err Height
  unfolding charted_of
  unlisted_answer = rw (unlisted_fourteen height (length old) none)

  pub unlisted_after : taps_after height old ≡ old
  unfolding taps_after
  unlisted_after = rw (unlisted_fourteen height (length old) none)

-- ---- one has
module _ (height : ℕ) (old : List ℕ) (has : listed height ≡ true) where
  pub listed_answer : charted_of height old ≡ answer_by (room_refusal (length (kernel_of height)) (length old)) (length (kernel_of height))
  unfolding charted_of
  listed_answer = rw (listed_room height (length old) has)

  pub listed_after : taps_after height old ≡ after_by (room_refusal (length (kernel_of height)) (length old)) (kernel_of height) old
  unfolding taps_after
  listed_after = rw (listed_room height (length old) has)

-- what the call knows of the row that it found
pub ruleset row_facts = (unlisted_answer, unlisted_after, listed_answer, listed_after)

-- Laws of `first_broken`, and of a chain of tests in code that returns the first refusal whose test fails. Assumes nothing.
use mathlib.Core.Path.{◌≡◌, refl, sym, ◌∙◌}
use mathlib.Core.Bool.{Bool, true, false, not, ◌&&◌}
use mathlib.Core.List.{List, [], ◌∷◌, ◌++◌}
use borrow.Author.Tests.{not-true, not-false}
use Rattle.std.specs.Prelude.{Ok, Err}
use Rattle.refusal.specs.declared.Refusal.{Refusal}
use Rattle.refusal.specs.First.{Verdict, first_broken, unless_refused}

-- ---- two tests that both passed
pub and_left : (a b : Bool) → (a && b) ≡ true → a ≡ true
and_left true b e = refl
and_left false b e = e

pub and_right : (a b : Bool) → (a && b) ≡ true → b ≡ true
and_right true b e = e
and_right false b e = cc

-- ---- a negated test of a call's result, as a fact of the definition that the call computes
pub fails : {r b : Bool} → r ≡ b → not r ≡ true → b ≡ false
fails {r} e h = sym e ∙ not-true r h

pub holds : {r b : Bool} → r ≡ b → not r ≡ false → b ≡ true
holds {r} e h = sym e ∙ not-false r h

-- ---- lists of tests
-- every test passed
abbrev pub Passed : List (Refusal × Bool) → Type 0
Passed [] = Unit {0}
Passed (t ∷ later) = (t.1 ≡ true) × Passed later

pub passed : (ts : List (Refusal × Bool)) → first_broken ts ≡ Ok tt → Passed ts
passed [] e = tt
passed ((r, true) ∷ later) e = (refl, passed later e)
passed ((r, false) ∷ later) e = cc

pub none_broken : (ts : List (Refusal × Bool)) → Passed ts → first_broken ts ≡ Ok tt
none_broken [] p = refl
none_broken ((r, b) ∷ later) p = rw p.0 (none_broken later p.1)

-- a call's tests go on after those of another call: the verdict of the second where the first passed, and that of the first where not
pub together : (ts more : List (Refusal × Bool)) → first_broken (ts ++ more) ≡ unless_refused (first_broken ts) (first_broken more)
together [] more = refl
together ((r, true) ∷ later) more = together later more
together ((r, false) ∷ later) more = refl

-- neither list has a broken test where the two together have none
pub halves : (ts more : List (Refusal × Bool)) → first_broken (ts ++ more) ≡ Ok tt → (first_broken ts ≡ Ok tt) × (first_broken more ≡ Ok tt)
halves [] more e = (refl, e)
halves ((r, true) ∷ later) more e = halves later more e
halves ((r, false) ∷ later) more e = cc

-- it refused: that is the answer
pub stop : {r : Refusal} (ts more : List (Refusal × Bool)) → first_broken ts ≡ Err r → first_broken (ts ++ more) ≡ Err r
stop ts more e = together ts more ∙ rw e refl

-- it did not: the answer is that of the other tests
pub go_on : {v : Verdict} (ts more : List (Refusal × Bool)) → first_broken ts ≡ Ok tt → v ≡ first_broken more → v ≡ first_broken (ts ++ more)
go_on ts more e f = f ∙ sym (together ts more ∙ rw e refl)

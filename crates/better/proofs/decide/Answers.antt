-- `better::decide` meets its contract. Assumes nothing.
use Rattle.std.proofs.Common.{◌≡◌, ℕ, Result, Ok, Err, ◌∙◌, rules}
use Rattle.refusal.specs.declared.Refusal.{Refusal}
use Rattle.refusal.specs.First.{Verdict, lower_of}
use Rattle.better.specs.Inner.Judged.{decided}
use Rattle.better.proofs.decide.Goals as goal

-- whether a finding is a refusal
abbrev told : Result ℕ Refusal → Verdict
told (Ok _) = Ok tt
told (Err r) = Err r

decided_refuses : (first second : Result ℕ Refusal) {r : Refusal} → Err r ≡ lower_of (told first) (told second) → Err r ≡ decided first second
decided_refuses (Ok a) (Ok b) e = cc
decided_refuses (Ok a) (Err y) e = cc
decided_refuses (Err x) (Ok b) e = cc
decided_refuses (Err x) (Err y) e = cc

pub returns-in_err-lower : goal.returns-in_err-lower
returns-in_err-lower c =
    let first : c.map.result ≡ told c.args.first = search rules in
    let second : c.map-2.result ≡ told c.args.second = search rules in
    let answer : c.from_residual.result ≡ Err c.in_err-lower.field-0.0 = search rules in
    answer ∙ decided_refuses c.args.first c.args.second (rw (first, second) at c.in_err-lower.ensures)

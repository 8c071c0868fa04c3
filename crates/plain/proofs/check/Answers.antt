-- The planes' tests, and then the kernel's.
use Rattle.std.proofs.Common.{◌≡◌, Err, sym, ◌∙◌, rules}
use Rattle.plain.proofs.Accept.{planes_refuse, kernel_refuses, none_refuses}
use Rattle.plain.proofs.check.Goals as goal

pub returns-in_err-check : goal.returns-in_err-check
returns-in_err-check g c =
    let told : c.from_residual.result ≡ Err c.in_err-check.field-0.0 = search rules in
    told ∙ planes_refuse _ _ c.in_err-check.ensures

pub returns-then-not-is_lawful : goal.returns-then-not-is_lawful
returns-then-not-is_lawful g c = kernel_refuses _ _ c.in_ok-check.ensures (sym c.is_lawful.ensures ∙ c.if-not-is_lawful.true)

pub returns : goal.returns
returns g c = none_refuses _ _ c.in_ok-check.ensures (sym c.is_lawful.ensures ∙ c.if-not-is_lawful.false)

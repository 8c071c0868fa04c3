-- `plane::check` meets its contract: the tests of the sizes decide where they refuse, else those of the planes.
-- Assumes nothing.
use Rattle.std.proofs.Common.{rules, ◌≡◌, Err, sym, ◌∙◌}
use Rattle.plane.specs.Inner.Seen.{planes}
use Rattle.plane.proofs.Several.{pair_in_parts}
use Rattle.plane.proofs.check.Goals as goal

pub returns-in_err-check_size : goal.returns-in_err-check_size
returns-in_err-check_size g c =
    let parts = pair_in_parts (planes g.S.Sample.value g.S.Stored.WIDE c.args.p) c.args.least in
    let told : c.from_residual.result ≡ Err c.in_err-check_size.field-0.0 = search rules in
    told ∙ sym (rw (← c.in_err-check_size.ensures) at parts)

pub returns : goal.returns
returns g c =
    let parts = pair_in_parts (planes g.S.Sample.value g.S.Stored.WIDE c.args.p) c.args.least in
    c.lower.ensures ∙ sym (rw (← c.in_ok-check_size.ensures, ← c.check_layout-own.ensures, ← c.check_layout-other.ensures) at parts)

-- `locate::map::check` meets its contract: the tests of the planes decide where they refuse, else the places do. Assumes nothing.
use Rattle.std.proofs.Common.{rules, ◌≡◌, Err, sym, ◌∙◌}
use Rattle.locate.proofs.Accept.{planes_refuse, places_refuse, none_refuses}
use Rattle.locate.proofs.map.check.Goals as goal

pub returns-in_err-check : goal.returns-in_err-check
returns-in_err-check g c =
    let told : c.from_residual.result ≡ Err c.in_err-check.field-0.0 = search rules in
    told ∙ sym (planes_refuse _ _ (sym c.in_err-check.ensures))

pub returns-then-lent-places : goal.returns-then-lent-places
returns-then-lent-places g c = sym (places_refuse _ _ (sym c.in_ok-check.ensures) (rw c.places.ensures at c.if-lent-places.true))

pub returns : goal.returns
returns g c = sym (none_refuses _ _ (sym c.in_ok-check.ensures) (rw c.places.ensures at c.if-lent-places.false))

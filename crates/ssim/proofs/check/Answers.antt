-- The planes' tests, then the kernel's, then the scratch's.
use Rattle.std.proofs.Common.{◌≡◌, Err, sym, ◌∙◌, rules}
use Rattle.plane.proofs.Accept.{accepted}
use Rattle.ssim.proofs.Accept.{planes_refuse, kernel_refuses, scratch_refuses, none_refuses, taps_count}
use Rattle.ssim.proofs.check.Goals as goal

pub returns-in_err-check : goal.returns-in_err-check
returns-in_err-check g c =
    let told : c.from_residual.result ≡ Err c.in_err-check.field-0.0 = search rules in
    told ∙ planes_refuse _ _ _ c.in_err-check.ensures

pub returns-then-not-is_lawful : goal.returns-then-not-is_lawful
returns-then-not-is_lawful g c = kernel_refuses _ _ _ c.in_ok-check.ensures (sym c.is_lawful.ensures ∙ c.if-not-is_lawful.true)

pub scratch_places-requires : goal.scratch_places-requires
scratch_places-requires g c =
    let count = taps_count _ (sym c.is_lawful.ensures ∙ c.if-not-is_lawful.false) in
    (count.0, count.1, (accepted _ _ _ (sym c.in_ok-check.ensures)).sized.width_most)

pub returns-then-lent-scratch_places : goal.returns-then-lent-scratch_places
returns-then-lent-scratch_places g c = scratch_refuses _ _ _ c.in_ok-check.ensures (sym c.is_lawful.ensures ∙ c.if-not-is_lawful.false)
    (rw c.scratch_places.ensures at c.if-lent-scratch_places.true)

pub returns : goal.returns
returns g c = none_refuses _ _ _ c.in_ok-check.ensures (sym c.is_lawful.ensures ∙ c.if-not-is_lawful.false)
    (rw c.scratch_places.ensures at c.if-lent-scratch_places.false)

-- The planes' tests, and then the scratch's.
use Rattle.std.proofs.Common.{rules, ◌≡◌, Err, sym, ◌∙◌}
use Rattle.plane.specs.Inner.Seen.{planes}
use Rattle.plane.proofs.Accept.{accepted}
use Rattle.msssim.specs.Scratch.{scratch_of}
use Rattle.msssim.specs.Answer.{least_side}
use Rattle.msssim.proofs.Accept.{in_parts}
use Rattle.msssim.proofs.check.Goals as goal

pub returns-in_err-check : goal.returns-in_err-check
unfolding least_side
returns-in_err-check g c =
    let parts = in_parts (planes g.S.Sample.value g.S.Stored.WIDE c.args.p) (scratch_of c.args.scratch.now c.args.a32.now c.args.b32.now) in
    let told : c.from_residual.result ≡ Err c.in_err-check.field-0.0 = search rules in
    told ∙ sym (rw (← c.in_err-check.ensures) at parts)

pub scratch_suits-requires : goal.scratch_suits-requires
scratch_suits-requires g c =
    let planes = accepted _ _ _ (sym c.in_ok-check.ensures) in
    (planes.sized.width_most, planes.sized.height_most)

pub returns-then-not-scratch_suits : goal.returns-then-not-scratch_suits
unfolding least_side
returns-then-not-scratch_suits g c =
    let parts = in_parts (planes g.S.Sample.value g.S.Stored.WIDE c.args.p) (scratch_of c.args.scratch.now c.args.a32.now c.args.b32.now) in
    sym (parts ∙ rw (← c.in_ok-check.ensures, sym c.scratch_suits.ensures ∙ c.if-not-scratch_suits.true))

pub returns : goal.returns
unfolding least_side
returns g c =
    let parts = in_parts (planes g.S.Sample.value g.S.Stored.WIDE c.args.p) (scratch_of c.args.scratch.now c.args.a32.now c.args.b32.now) in
    sym (parts ∙ rw (← c.in_ok-check.ensures, sym c.scratch_suits.ensures ∙ c.if-not-scratch_suits.false))

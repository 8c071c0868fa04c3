-- `number::finite` meets its contract. Assumes nothing.
use Rattle.std.proofs.Common.{◌≡◌, refl, ◌∙◌}
use Rattle.std.specs.Float.{float_is_finite}
use lib.Ieee.{Float, nan, inf, fin}
use lib.Ieee.Scale as Scale
use Rattle.number.proofs.finite.Goals as goal

-- two ways to say it
said : (x : Float) → float_is_finite x ≡ Scale.finite x
unfolding float_is_finite
said nan = refl
said (inf s) = refl
said (fin s m k) = refl

pub returns : goal.returns
returns c = c.is_finite.ensures.value ∙ said c.args.x

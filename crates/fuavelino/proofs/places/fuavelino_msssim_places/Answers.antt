-- `fuavelino::places::fuavelino_msssim_places` meets its contract: what the test says, and `msssim::places_needed` where it passes. Assumes nothing.
use mathlib.Core.Path.{sym, ◌∙◌}
use Rattle.plane.specs.Limits.{side_limit}
use Rattle.msssim.specs.Answer.{least_side}
use Rattle.fuavelino.specs.Places.{msssim_places}
use Rattle.fuavelino.proofs.Counts.{within_says, given, not_given}
use Rattle.fuavelino.proofs.places.fuavelino_msssim_places.Goals as goal

pub places_needed-requires : goal.places_needed-requires
unfolding side_limit
places_needed-requires c = (within_says _ _ _ (sym c.is_within.ensures ∙ c.if-is_within.true)).1

pub returns-then-is_within : goal.returns-then-is_within
unfolding msssim_places side_limit least_side
returns-then-is_within c = c.places_needed.ensures
    ∙ given _ _ (sym c.is_within.ensures ∙ c.if-is_within.true)

pub returns-else-is_within : goal.returns-else-is_within
unfolding msssim_places side_limit least_side
returns-else-is_within c = not_given _ _ (sym c.is_within.ensures ∙ c.if-is_within.false)

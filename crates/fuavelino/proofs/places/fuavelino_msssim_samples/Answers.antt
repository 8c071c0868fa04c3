-- `fuavelino::places::fuavelino_msssim_samples` meets its contract: what both tests say, and `msssim::samples_needed` where they pass. Assumes nothing.
use mathlib.Core.Path.{◌∙◌}
use Rattle.plane.specs.Limits.{side_limit}
use Rattle.msssim.specs.Answer.{least_side}
use Rattle.fuavelino.specs.Places.{msssim_samples}
use Rattle.fuavelino.proofs.Counts.{both_say, tested, given, not_given}
use Rattle.fuavelino.proofs.places.fuavelino_msssim_samples.Goals as goal

pub samples_needed-requires : goal.samples_needed-requires
unfolding side_limit
samples_needed-requires c = let s = both_say _ _ _ _ _ _ (tested c.is_within.ensures c.is_within-2.ensures c.if-is_within.true) in
    (s.0.1, s.1.1)

pub returns-then-is_within : goal.returns-then-is_within
unfolding msssim_samples side_limit least_side
returns-then-is_within c = c.samples_needed.ensures
    ∙ given _ _ (tested c.is_within.ensures c.is_within-2.ensures c.if-is_within.true)

pub returns-else-is_within : goal.returns-else-is_within
unfolding msssim_samples side_limit least_side
returns-else-is_within c = not_given _ _ (tested c.is_within.ensures c.is_within-2.ensures c.if-is_within.false)

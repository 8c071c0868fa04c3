-- `fuavelino::places::fuavelino_ssim_places` meets its contract: what both tests say, and `ssim::scratch_places` where they pass. Assumes nothing.
use mathlib.Core.Path.{◌∙◌}
use Rattle.plane.specs.Limits.{side_limit}
use Rattle.kernel.specs.Kernel.{most_taps}
use Rattle.fuavelino.specs.Places.{ssim_places}
use Rattle.fuavelino.proofs.Counts.{both_say, tested, given, not_given}
use Rattle.fuavelino.proofs.places.fuavelino_ssim_places.Goals as goal

pub scratch_places-requires : goal.scratch_places-requires
unfolding side_limit most_taps
scratch_places-requires c = let s = both_say _ _ _ _ _ _ (tested c.is_within.ensures c.is_within-2.ensures c.if-is_within.true) in
    (s.1.0, s.1.1, s.0.1)

pub returns-then-is_within : goal.returns-then-is_within
unfolding ssim_places side_limit most_taps
returns-then-is_within c = c.scratch_places.ensures
    ∙ given _ _ (tested c.is_within.ensures c.is_within-2.ensures c.if-is_within.true)

pub returns-else-is_within : goal.returns-else-is_within
unfolding ssim_places side_limit most_taps
returns-else-is_within c = not_given _ _ (tested c.is_within.ensures c.is_within-2.ensures c.if-is_within.false)

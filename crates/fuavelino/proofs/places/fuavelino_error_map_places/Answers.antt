-- `fuavelino::places::fuavelino_error_map_places` meets its contract: what both tests say, and `locate::tiles::places` where they pass. Assumes nothing.
use mathlib.Core.Path.{◌∙◌}
use Rattle.plane.specs.Limits.{side_limit}
use Rattle.fuavelino.specs.Places.{error_map_places}
use Rattle.fuavelino.proofs.Counts.{both_say, tested, given, not_given}
use Rattle.fuavelino.proofs.places.fuavelino_error_map_places.Goals as goal

pub places-requires : goal.places-requires
unfolding side_limit
places-requires c = let s = both_say _ _ _ _ _ _ (tested c.is_within.ensures c.is_within-2.ensures c.if-is_within.true) in
    (s.0.1, s.1.1)

pub returns-then-is_within : goal.returns-then-is_within
unfolding error_map_places side_limit
returns-then-is_within c = c.places.ensures
    ∙ given _ _ (tested c.is_within.ensures c.is_within-2.ensures c.if-is_within.true)

pub returns-else-is_within : goal.returns-else-is_within
unfolding error_map_places side_limit
returns-else-is_within c = not_given _ _ (tested c.is_within.ensures c.is_within-2.ensures c.if-is_within.false)

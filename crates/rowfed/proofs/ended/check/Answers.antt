-- `rowfed::ended::check` meets its contract. Assumes nothing.
use Rattle.std.proofs.Common.{sym, ◌∙◌}
use Rattle.rowfed.proofs.Accept.{either_says, sound_state}
use Rattle.rowfed.proofs.ended.check.Goals as goal

pub scratch_places-requires : goal.scratch_places-requires
scratch_places-requires c =
    let found = either_says _ (sym c.is_possible_anyhow.ensures ∙ c.if-not-is_possible_anyhow.false) in
    let s = sound_state found.0 _ found.1 in
    (s.taps_least, s.taps_most, s.width_most)

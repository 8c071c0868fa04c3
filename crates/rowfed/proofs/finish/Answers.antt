-- `rowfed::finish` meets its contract. Assumes nothing.
use Rattle.std.proofs.Common.{sym}
use Rattle.rowfed.proofs.Accept.{finished, either_says, sound_state}
use Rattle.rowfed.proofs.finish.Goals as goal

pub close-requires : goal.close-requires
close-requires c =
    let done = finished _ _ (sym c.in_ok-check.ensures) in
    let found = either_says _ done.state in
    record {
      sound_state = sound_state found.0 _ found.1;
      state_in_bounds = done.lent_enough;
    }

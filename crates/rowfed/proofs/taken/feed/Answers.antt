-- `rowfed::taken::feed` meets its contract. Assumes nothing.
use Rattle.std.proofs.Common.{refl, sym}
use Rattle.rowfed.proofs.Accept.{taken, sound_feed}
use Rattle.rowfed.proofs.taken.feed.Goals as goal

pub take_under-sums-requires : goal.take_under-sums-requires
take_under-sums-requires g c = record { kernel_value = refl; sound_feed = sound_feed _ _ _ c.requires.0 (taken _ _ _ (sym c.in_ok-check.ensures)) }

pub with_rows-requires : goal.with_rows-requires
with_rows-requires g c =
    let a = sound_feed _ _ _ c.requires.0 (taken _ _ _ (sym c.in_ok-check.ensures)) in
    (a.room, a.state.height_most)

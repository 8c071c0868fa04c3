-- `rowfed::taken::check` meets its contract. Assumes nothing.
use Rattle.std.proofs.Common.{sym, ◌∙◌}
use Rattle.plane.proofs.Accept.{sides_say}
use Rattle.rowfed.proofs.Accept.{depth_suits_lem, sides_suit_lem, sound_state}
use Rattle.rowfed.proofs.taken.check.Goals as goal

pub check_rows-requires : goal.check_rows-requires
check_rows-requires g c =
    let ok = rw c.WIDE.ensures at (sym c.is_possible.ensures ∙ c.if-not-is_possible.false) in
    record {
      depth_value = rw c.requires.1 (depth_suits_lem _ _ ok);
      le_width = rw c.requires.0 (sides_say _ _ (sides_suit_lem _ _ ok)).0.0;
    }

pub check_late-requires : goal.check_late-requires
check_late-requires g c = sound_state _ _ (sym c.is_possible.ensures ∙ c.if-not-is_possible.false)

-- `probe::probe_winner8` meets its contract: what is handed back is the winner. Assumes nothing.
use Rattle.std.proofs.Common.{false, refl, sym, ◌∙◌}
use Rattle.std.proofs.lemmas.List.{map-id, get_or_default, get_or_past}
use Rattle.probe.proofs.Winner.{winner_is}
use Rattle.probe.proofs.probe_winner8.Goals as goal

pub returns-then-at-winner : goal.returns-then-at-winner
returns-then-at-winner c =
    let is = winner_is false c.args.o c.args.a c.args.b c.args.width c.args.height c.args.stride_o c.args.stride_a c.args.stride_b c.args.depth in
    let handed = rw (map-id, c.plane_of.ensures, c.plane_of-2.ensures, c.plane_of-3.ensures) at c.winner-winner.ensures in
    let won = handed ∙ sym is in
    record {
      value = rw (← won) refl;
      sample_after = rw (← won) (get_or_default _ _ _ _ c.if-at-winner.true);
    }

pub returns-else-at-winner : goal.returns-else-at-winner
returns-else-at-winner c =
    let is = winner_is false c.args.o c.args.a c.args.b c.args.width c.args.height c.args.stride_o c.args.stride_a c.args.stride_b c.args.depth in
    let handed = rw (map-id, c.plane_of.ensures, c.plane_of-2.ensures, c.plane_of-3.ensures) at c.winner-winner.ensures in
    let won = handed ∙ sym is in
    record {
      value = rw (← won) refl;
      sample_after = rw (← won) (sym (get_or_past _ _ _ c.if-at-winner.false));
    }

-- `fuavelino::rows_calls::fuavelino_rows_feed8` meets its contract: a depth that no state has is refused by its number alone; else what the feed
-- answered is told. Assumes nothing.
use Rattle.std.proofs.Common.{false, length, sym, ap, refl, ◌∙◌}
use borrow.Author.Tests.{ltb-true}
use Rattle.plane.specs.Plane.{Planes}
use Rattle.rowfed.specs.declared.State.{State}
use Rattle.fuavelino.specs.Rows.{state_in, lent_rows, sums_of}
use Rattle.fuavelino.proofs.Called.{plane_is}
use Rattle.fuavelino.proofs.Deep.{deep_feed}
use Rattle.fuavelino.proofs.rows_calls.fuavelino_rows_feed8.Goals as goal

pub returns-then-too_deep : goal.returns-then-too_deep
returns-then-too_deep c =
    let state : State = state_in c.args.numbers.now c.args.held.now c.args.sums.now in
    let rows : Planes = lent_rows false state c.args.a c.args.b c.args.stride_a c.args.stride_b c.args.rows c.args.scratch.now in
    let deep = deep_feed state (ltb-true _ _ (sym c.too_deep.ensures ∙ c.if-too_deep.true)) rows (length c.args.scratch.now) in
    record { value = rw deep c.number.ensures; scratch_after = rw deep refl; numbers_after = rw deep refl; sums_after = rw deep refl }

pub returns-in-Ok-clause-value : goal.returns-in-Ok-clause-value
returns-in-Ok-clause-value c =
    let fed = rw (c.plane_of.ensures, c.plane_of-2.ensures, plane_is, plane_is, c.lent_state-state.ensures, c.in-Ok.is) at c.feed.ensures.value in
    rw (← fed) refl

pub returns-in-Ok-clause-sums_after : goal.returns-in-Ok-clause-sums_after
returns-in-Ok-clause-sums_after c =
    let fed = rw (c.plane_of.ensures, c.plane_of-2.ensures, plane_is, plane_is, c.lent_state-state.ensures, c.in-Ok.is) at c.feed.ensures.value in
    let state = rw (c.plane_of.ensures, c.plane_of-2.ensures, plane_is, plane_is, c.lent_state-state.ensures) at c.feed.ensures.state_after in
    rw (← fed) (c.put_counts.ensures.sums_after ∙ ap sums_of (rw (← fed) at state))

pub returns-in-Err-clause-value : goal.returns-in-Err-clause-value
returns-in-Err-clause-value c =
    let fed = rw (c.plane_of.ensures, c.plane_of-2.ensures, plane_is, plane_is, c.lent_state-state.ensures, c.in-Err.is) at c.feed.ensures.value in
    rw (← fed) c.number-in-Err.ensures

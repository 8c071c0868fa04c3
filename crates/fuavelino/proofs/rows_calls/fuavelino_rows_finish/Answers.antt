-- `fuavelino::rows_calls::fuavelino_rows_finish` meets its contract: a depth that no state has is refused by its number alone. Assumes nothing.
use Rattle.std.proofs.Common.{length, sym, refl, ◌∙◌}
use borrow.Author.Tests.{ltb-true}
use Rattle.rowfed.specs.declared.State.{State}
use Rattle.fuavelino.specs.Rows.{state_in}
use Rattle.fuavelino.proofs.Deep.{deep_finish}
use Rattle.fuavelino.proofs.rows_calls.fuavelino_rows_finish.Goals as goal

pub returns-then-too_deep : goal.returns-then-too_deep
returns-then-too_deep c =
    let state : State = state_in c.args.numbers.now c.args.held.now c.args.sums.now in
    let deep = deep_finish state (ltb-true _ _ (sym c.too_deep.ensures ∙ c.if-too_deep.true)) (length c.args.scratch.now) in
    record { value = rw deep c.number.ensures; scratch_after = rw deep refl; ssim_after = rw deep refl; cs_after = rw deep refl }

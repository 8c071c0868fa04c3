-- `idct8` reads a row, undoes the pass and stores the eight numbers in their order. Assumes nothing.
use mathlib.Core.Path.{◌∙◌, ap}
use mathlib.Core.List.{List, ◌++◌}
use lib.IntN.{ℤ}
use lib.ListN.{drop}
use borrow.Author.Rules.{rules}
use Rattle.lifting.specs.Steps.{run, undo_all, steps}
use Rattle.dct.specs.Block.{idct8, input_order⁻¹}
use Rattle.lifting.proofs.Size.{whole8}
use Rattle.dct.proofs.block.idct8.Goals as goal

pub returns : goal.returns
unfolding idct8
returns c =
    let a = c.gather-a.result in
    let r = c.undo_steps-r.result in
    c.store.ensures
    ∙ ap (λ (l : List ℤ). l ++ drop 8 c.args.out.now)
    (whole8 r.t0 r.t4 r.t2 r.t6 r.t7 r.t3 r.t5 r.t1 (search rules) (search rules) (search rules) (search rules)
    (search rules) (search rules) (search rules) (search rules)
    ∙ ap input_order⁻¹
    (c.undo_steps-r.ensures
    ∙ ap (run (undo_all steps))
    (whole8 a.t0 a.t1 a.t2 a.t3 a.t4 a.t5 a.t6 a.t7 (search rules) (search rules) (search rules) (search rules)
    (search rules) (search rules) (search rules) (search rules)
    ∙ c.gather-a.ensures)))

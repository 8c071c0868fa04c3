-- `fdct8` reads a column, runs the pass and stores the eight numbers. Assumes nothing.
use mathlib.Core.Path.{◌∙◌, ap}
use mathlib.Core.List.{List, ◌++◌}
use lib.IntN.{ℤ}
use lib.ListN.{drop}
use borrow.Author.Rules.{rules}
use Rattle.lifting.specs.Steps.{run, steps}
use Rattle.dct.specs.Block.{fdct8, input_order}
use Rattle.lifting.proofs.Size.{whole8}
use Rattle.dct.proofs.block.fdct8.Goals as goal

pub returns : goal.returns
unfolding fdct8
returns c =
    let g = c.gather-c.result in
    c.store.ensures
    ∙ ap (λ (l : List ℤ). l ++ drop 8 c.args.out.now)
    (c.run_steps-r.ensures
    ∙ ap (run steps)
    (whole8 g.t0 g.t7 g.t2 g.t5 g.t1 g.t6 g.t3 g.t4 (search rules) (search rules) (search rules) (search rules)
    (search rules) (search rules) (search rules) (search rules)
    ∙ ap input_order c.gather-c.ensures))

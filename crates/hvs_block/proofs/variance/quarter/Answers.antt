-- `quarter` works its variance out from its sums. Assumes nothing.
use mathlib.Core.Path.{sym, ◌∙◌}
use native.Mathlib.Omega.{arith}
use Rattle.hvs_block.proofs.Levels.{quarter_le, squares_most, var_is}
use Rattle.hvs_block.proofs.variance.quarter.Goals as goal

pub var-requires : goal.var-requires
var-requires c = let t = c.quarter_sums-t.ensures in
    rw (t.sum_value, t.squares_value) (
      quarter_le c.args.b.now c.requires.samples c.args.top c.args.left,
      omega (arith, squares_most c.args.b.now c.requires.samples c.args.top c.args.left 16),
    )

pub returns-clause-var_value : goal.returns-clause-var_value
returns-clause-var_value c = let t = c.quarter_sums-t.ensures in
    rw (t.sum_value, t.squares_value) at c.var.ensures ∙ sym (var_is c.args.b.now c.requires.samples c.args.top c.args.left)

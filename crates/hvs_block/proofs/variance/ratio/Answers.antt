-- `ratio` goes by its test; the sums of the quarters are the block's. Assumes nothing.
use mathlib.Core.Path.{◌≡◌, ◌∙◌}
use mathlib.Core.List.{List}
use Prim.Native.Nat.{ℕ, ◌+◌}
use native.Mathlib.Omega.{arith}
use lib.IntN.{ℤ}
use Rattle.plane.specs.Sums.{sum_to}
use Rattle.hvs_block.specs.Block.{ratio, var_sum}
use Rattle.hvs_block.specs.Inner.Levels.{Samples, level_of, level_in, squares}
use Rattle.hvs_block.proofs.Levels.{sums_add, squares_add, whole_sum, whole_squares, whole_le, gvar_by}
use Rattle.hvs_block.proofs.variance.ratio.Goals as goal

-- the sums of the four make up the block's
module _ (b : List ℤ) (h : Samples b) (k l m n : ℕ) where
  total : k ≡ sum_to (level_in b 0 0) 16 → l ≡ sum_to (level_in b 4 0) 16 → m ≡ sum_to (level_in b 0 4) 16 → n ≡ sum_to (level_in b 4 4) 16
      → k + l + m + n ≡ sum_to (level_of b) 64
  total p q r s = rw (p, q, r, s) (sums_add b h)

  total_squares : k ≡ squares (level_in b 0 0) 16 → l ≡ squares (level_in b 4 0) 16 → m ≡ squares (level_in b 0 4) 16 → n ≡ squares (level_in b 4 4) 16
      → k + l + m + n ≡ squares (level_of b) 64
  total_squares p q r s = rw (p, q, r, s) (squares_add b h)

pub overflow_add-a : goal.overflow_add-a
overflow_add-a c = omega (arith, sums_add c.args.b.now c.requires.samples, whole_sum c.args.b.now c.requires.samples)

pub overflow_add-a-2 : goal.overflow_add-a-2
overflow_add-a-2 c = omega (arith, sums_add c.args.b.now c.requires.samples, whole_sum c.args.b.now c.requires.samples)

pub overflow_add-a-3 : goal.overflow_add-a-3
overflow_add-a-3 c = omega (arith, sums_add c.args.b.now c.requires.samples, whole_sum c.args.b.now c.requires.samples)

pub overflow_add-a-4 : goal.overflow_add-a-4
overflow_add-a-4 c = omega (arith, squares_add c.args.b.now c.requires.samples, whole_squares c.args.b.now c.requires.samples)

pub overflow_add-a-5 : goal.overflow_add-a-5
overflow_add-a-5 c = omega (arith, squares_add c.args.b.now c.requires.samples, whole_squares c.args.b.now c.requires.samples)

pub overflow_add-a-6 : goal.overflow_add-a-6
overflow_add-a-6 c = omega (arith, squares_add c.args.b.now c.requires.samples, whole_squares c.args.b.now c.requires.samples)

pub gvar-g-requires : goal.gvar-g-requires
gvar-g-requires c =
    let b = c.args.b.now in
    let h = c.requires.samples in
    let s = total b h _ _ _ _ c.quarter-a.ensures.sum_value c.quarter-c.ensures.sum_value c.quarter-d.ensures.sum_value c.quarter-e.ensures.sum_value in
    let q = total_squares b h _ _ _ _ c.quarter-a.ensures.squares_value c.quarter-c.ensures.squares_value c.quarter-d.ensures.squares_value c.quarter-e.ensures.squares_value in
    (rw (s, q) (whole_le b h), rw q (whole_squares b h))

pub returns-then-g : goal.returns-then-g
unfolding ratio var_sum
returns-then-g c =
    let b = c.args.b.now in
    let h = c.requires.samples in
    let s = total b h _ _ _ _ c.quarter-a.ensures.sum_value c.quarter-c.ensures.sum_value c.quarter-d.ensures.sum_value c.quarter-e.ensures.sum_value in
    let q = total_squares b h _ _ _ _ c.quarter-a.ensures.squares_value c.quarter-c.ensures.squares_value c.quarter-d.ensures.squares_value c.quarter-e.ensures.squares_value in
    let variance = c.gvar-g.ensures ∙ gvar_by b h _ _ s q in
    rw (
      ← variance,
      c.if-g.true,
      c.quarter-a.ensures.var_value,
      c.quarter-c.ensures.var_value,
      c.quarter-d.ensures.var_value,
      c.quarter-e.ensures.var_value,
    )

pub returns-else-g : goal.returns-else-g
unfolding ratio
returns-else-g c =
    let b = c.args.b.now in
    let h = c.requires.samples in
    let s = total b h _ _ _ _ c.quarter-a.ensures.sum_value c.quarter-c.ensures.sum_value c.quarter-d.ensures.sum_value c.quarter-e.ensures.sum_value in
    let q = total_squares b h _ _ _ _ c.quarter-a.ensures.squares_value c.quarter-c.ensures.squares_value c.quarter-d.ensures.squares_value c.quarter-e.ensures.squares_value in
    let variance = c.gvar-g.ensures ∙ gvar_by b h _ _ s q in
    rw (← variance, c.if-g.false)

-- `quarter_sums` adds the samples of a quarter, and their squares. Assumes nothing.
use mathlib.Core.Path.{◌≡◌}
use Prim.Native.Nat.{◌≤◌}
use Rattle.plane.specs.Sums.{sum_to}
use Rattle.hvs_block.specs.Inner.Levels.{level_in, squares}
use Rattle.hvs_block.proofs.variance.quarter_sums.Given as goal

abbrev pub invariant-loop-k : goal.invariant-loop-k
invariant-loop-k l =
    (l.k ≤ 16) × (l.sum ≡ sum_to (level_in l.b l.top l.left) l.k) × (l.squares ≡ squares (level_in l.b l.top l.left) l.k)

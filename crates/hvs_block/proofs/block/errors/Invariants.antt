-- `errors` adds the terms of all places. Assumes nothing.
use mathlib.Core.Path.{◌≡◌}
use Prim.Native.Nat.{◌≤◌}
use Rattle.hvs_block.specs.Block.{add_term}
use Rattle.hvs_block.proofs.Folds.{flat8}
use Rattle.hvs_block.proofs.block.errors.Given as goal

abbrev pub invariant-loop-k : goal.invariant-loop-k
invariant-loop-k l = (l.k ≤ 64) × (l.s ≡ flat8 (add_term l.d1 l.d2 l.tables.csf l.tables.mask l.m) l.so_far l.k)

-- `idct8_each_row` passes each row back to its row: after i rounds the first i rows are written. Assumes nothing.
use mathlib.Core.Path.{◌≡◌}
use mathlib.Core.List.{◌++◌}
use Prim.Native.Nat.{◌≤◌, ◌*◌}
use lib.ListN.{length, drop}
use Rattle.dct.specs.Block.{idct8, row, rows}
use Rattle.dct.proofs.block.idct8_each_row.Given as goal

abbrev pub invariant-loop-i : goal.invariant-loop-i
invariant-loop-i l =
    (l.i ≤ 8) × (length l.out ≡ length l.initial.out) × (l.out ≡ rows (λ k. idct8 (row k l.x)) l.i ++ drop (8 * l.i) l.initial.out)

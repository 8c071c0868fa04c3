-- `row_suits` of words: the largest fits a word. Assumes nothing.
use Rattle.std.proofs.Common.{true, arith}
use native.Mathlib.Nat.{le_refl}
use Rattle.plane.proofs.Depth.{max_small}
use Rattle.plane.proofs.U16Stored.row_suits.Goals as goal

pub overflow_cast-max : goal.overflow_cast-max
overflow_cast-max c = omega (arith, c.requires, max_small true (le_refl _))

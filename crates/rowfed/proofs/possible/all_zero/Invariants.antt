-- `rowfed::possible::all_zero` meets its contract. Assumes nothing.
use mathlib.Core.Path.{◌≡◌}
use Prim.Native.Nat.{ℕ, ◌≤◌}
use lib.Dec.{eqb}
use lib.ListN.{length}
use Rattle.plane.specs.Plane.{at, all_to}
use Rattle.rowfed.proofs.possible.all_zero.Given as goal

abbrev pub invariant-loop-k : goal.invariant-loop-k
invariant-loop-k l = (l.k-index ≤ length l.l) × (l.ok ≡ all_to (λ (i : ℕ). eqb (at l.l i) 0) l.k-index)

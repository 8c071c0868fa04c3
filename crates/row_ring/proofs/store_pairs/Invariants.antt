-- The first x pairs stand there.
use mathlib.Core.Path.{◌≡◌}
use mathlib.Core.List.{map}
use Prim.Native.Nat.{ℕ, ◌≤◌}
use lib.ListN.{length}
use Rattle.plane.specs.Plane.{at}
use Rattle.window.specs.Inner.Columns.{Put}
use Rattle.row_ring.specs.Ring.{packed_of}
use Rattle.row_ring.proofs.store_pairs.Given as goal

abbrev pub invariant-loop-x : goal.invariant-loop-x
invariant-loop-x g l =
    (l.x ≤ length l.first) × (length l.s ≡ length l.initial.s)
    × Put l.initial.s l.s l.to l.x (λ (x : ℕ). packed_of (at (map g.S.Sample.value l.first) x) (at (map g.S.Sample.value l.second) x))

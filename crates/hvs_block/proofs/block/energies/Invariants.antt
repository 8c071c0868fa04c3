-- `energies` adds the weighed squares of two blocks; the first place is left out. Assumes nothing.
use mathlib.Core.Path.{◌≡◌}
use Prim.Native.Nat.{◌≤◌}
use Rattle.number.specs.Literals.{zero_d}
use Rattle.hvs_block.specs.Block.{add_energy}
use Rattle.hvs_block.proofs.Folds.{flat8}
use Rattle.hvs_block.proofs.block.energies.Given as goal

abbrev pub invariant-loop-k : goal.invariant-loop-k
invariant-loop-k l =
    (1 ≤ l.k) × (l.k ≤ 64) × (l.s ≡ flat8 (add_energy l.d1 l.mask) zero_d l.k) × (l.t ≡ flat8 (add_energy l.d2 l.mask) zero_d l.k)

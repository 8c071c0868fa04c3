-- One turn more of the walks over a block's coefficients. Assumes nothing.
use mathlib.Core.Path.{◌≡◌, refl}
use mathlib.Core.Bool.{false}
use mathlib.Core.List.{List}
use Prim.Native.Nat.{ℕ, ◌+◌, ◌/◌, ◌%◌, ◌≤◌}
use native.Mathlib.Omega.{arith}
use borrow.Author.Tests.{ne_eqb}
use lib.Dec.{eqb}
use lib.IntN.{ℤ, pos, ◌*ℤ◌}
use lib.ListN.{get_or}
use lib.Ieee.{Float}
use Rattle.number.specs.Steps.{fold_to, ◌⊕◌, ◌⊗◌}
use Rattle.hvs_block.specs.Tables.{entry}
use Rattle.hvs_block.specs.Block.{signed, add_energy, add_term, term, distance}
use Rattle.number.proofs.Folds.{fold_more}
use Rattle.hvs_block.proofs.Folds.{flat8, place, dc_is}

-- the first place counts for nothing
pub energy_first : (d : List ℤ) (mask : List (List Float)) (a : Float) → flat8 (add_energy d mask) a 1 ≡ a
unfolding fold_to
energy_first d mask a = refl

pub energy_more : (d : List ℤ) (mask : List (List Float)) (a : Float) (k : ℕ) → 1 ≤ k → flat8 (add_energy d mask) a (k + 1)
    ≡ flat8 (add_energy d mask) a k ⊕ signed (get_or d k (pos 0) *ℤ get_or d k (pos 0)) ⊗ entry mask (k / 8) (k % 8)
energy_more d mask a k l =
    let e : eqb k 0 ≡ false = ne_eqb k 0 (λ z. omega arith) in
    rw (fold_more, dc_is k, e, place k)

pub term_more : (d1 d2 : List ℤ) (csf mask : List (List Float)) (m a : Float) (k : ℕ) → flat8 (add_term d1 d2 csf mask m) a (k + 1)
    ≡ flat8 (add_term d1 d2 csf mask m) a k
    ⊕ term (eqb k 0) (distance (get_or d1 k (pos 0)) (get_or d2 k (pos 0))) (entry csf (k / 8) (k % 8)) (entry mask (k / 8) (k % 8)) m
term_more d1 d2 csf mask m a k = rw (fold_more, dc_is k, place k)

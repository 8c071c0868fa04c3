-- The numbers of a block of samples: all that proofs know of their limit. Assumes nothing.
use mathlib.Core.Bool.{true}
use mathlib.Core.List.{List, [], ◌∷◌}
use Prim.Native.Nat.{ℕ, zero, suc, ◌≤◌, ◌^◌, zero-le}
use native.Mathlib.Nat.{le_refl, le_trans, le_of_lt}
use lib.Dec.{lit≤}
use lib.IntN.{ℤ, pos, nat_abs}
use lib.ListN.{get_or}
use Rattle.plane.specs.Limits.{most_depth}
use Rattle.plane.specs.Plane.{max_of, sample_limit}
use Rattle.plane.proofs.Depth.{max_small}
use Rattle.dct.specs.Limits.{forward_limit}
use Rattle.lifting.specs.Inner.Within.{AllWithin}
use Rattle.hvs_block.specs.Inner.Levels.{Sample, Samples}

pub limit_small : sample_limit ≤ 2 ^ 12
limit_small = le_of_lt (max_small true (le_refl (most_depth true)))

-- the transform takes every sample
limit_forward : sample_limit ≤ forward_limit
unfolding max_of most_depth
limit_forward = lit≤ tt

pub sample_small : {z : ℤ} → Sample z → nat_abs z ≤ 2 ^ 12
sample_small h = le_trans h.small limit_small

pub sample_at_lem : (b : List ℤ) → Samples b → (k : ℕ) → Sample (get_or b k (pos 0))
sample_at_lem [] h k = record { above = tt; small = zero-le }
sample_at_lem (a ∷ v) h zero = h.0
sample_at_lem (a ∷ v) h (suc k) = sample_at_lem v h.1 k

pub samples_within : (b : List ℤ) → Samples b → AllWithin forward_limit b
samples_within [] h = tt
samples_within (a ∷ v) h = (record { le = le_trans h.0.small limit_forward }, samples_within v h.1)

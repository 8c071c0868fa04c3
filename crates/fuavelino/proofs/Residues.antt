-- Whatever the depth, forward takes every residue, which is a difference of samples, and every difference of two residues, and inverse
-- gives them back. Assumes nothing.
use mathlib.Core.Path.{◌≡◌}
use mathlib.Core.List.{List}
use Prim.Native.Nat.{ℕ, ◌+◌, ◌≤◌}
use native.Mathlib.Nat.{le_trans}
use native.Mathlib.Omega.{arith}
use lib.Dec.{lit≤}
use lib.IntN.{ℤ}
use lib.ListN.{length}
use Rattle.plane.specs.Limits.{most_depth}
use Rattle.plane.specs.Plane.{max_of, sample_limit}
use Rattle.dct.specs.Limits.{block_size, forward_limit}
use Rattle.dct.proofs.Residues.{Samples, residue, difference, Returns, residue_returns, difference_returns}

twice_fits : sample_limit + sample_limit ≤ forward_limit
unfolding max_of most_depth
twice_fits = lit≤ tt

pub residues_return : (p q r s : List ℕ) → Samples sample_limit p → Samples sample_limit q → Samples sample_limit r → Samples sample_limit s
    → (out out₂ : List ℤ) → length out ≡ block_size → length out₂ ≡ block_size
    → Returns (residue p q) out out₂ × Returns (difference p q r s) out out₂
residues_return p q r s hp hq hr hs out out₂ o o₂ = (
  residue_returns sample_limit out out₂ o o₂ (le_trans (omega arith) twice_fits) p q hp hq,
  difference_returns sample_limit out out₂ o o₂ twice_fits p q r s hp hq hr hs,
)

-- So far every tap suits.
use Rattle.std.proofs.Common.{◌≡◌, ◌≤◌, ℕ, length}
use lib.Dec.{leb}
use Rattle.plane.specs.Plane.{all_to}
use Rattle.kernel.specs.Kernel.{tap}
use Rattle.kernel.proofs.taps_suit.Given as goal

abbrev pub invariant-loop-tap : goal.invariant-loop-tap
invariant-loop-tap l =
    (l.tap-index ≤ length l.taps) × (l.ok ≡ all_to (λ (i : ℕ). leb (tap l.taps i) l.total) l.tap-index)

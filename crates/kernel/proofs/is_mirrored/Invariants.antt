-- So far every tap is the same from both ends.
use Rattle.std.proofs.Common.{◌≡◌, ◌≤◌, ◌-◌, ℕ, length}
use lib.Dec.{eqb}
use Rattle.plane.specs.Plane.{all_to}
use Rattle.kernel.specs.Kernel.{tap}
use Rattle.kernel.proofs.is_mirrored.Given as goal

abbrev pub invariant-loop-k : goal.invariant-loop-k
invariant-loop-k l =
    (l.k ≤ length l.taps) × (l.ok ≡ all_to (λ (i : ℕ). eqb (tap l.taps i) (tap l.taps (length l.taps - 1 - i))) l.k)

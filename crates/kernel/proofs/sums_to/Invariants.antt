-- The sum so far, and room for it.
use Rattle.std.proofs.Common.{◌≡◌, ◌≤◌, ◌*◌, length}
use Rattle.plane.specs.Sums.{sum_to}
use Rattle.kernel.specs.Kernel.{tap}
use Rattle.kernel.proofs.sums_to.Given as goal

abbrev pub invariant-loop-tap : goal.invariant-loop-tap
invariant-loop-tap l =
    (l.tap-index ≤ length l.taps) × (l.sum ≤ 65535 * l.tap-index) × (l.sum ≡ sum_to (tap l.taps) l.tap-index)

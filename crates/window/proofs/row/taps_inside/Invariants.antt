-- The taps before the index are summed.
use Rattle.std.proofs.Common.{ℕ, ◌≡◌, ◌+◌, ◌-◌, ◌/◌, length}
use Rattle.window.specs.Inner.Parts.{part_of}
use Rattle.window.proofs.row.taps_inside.Given as goal

abbrev pub invariant-loop-tap : goal.invariant-loop-tap
invariant-loop-tap l =
    l.sum ≡ part_of l.kernel l.side (λ (i : ℕ). 1) l.x (length l.kernel / 2 - l.x + l.tap-index)

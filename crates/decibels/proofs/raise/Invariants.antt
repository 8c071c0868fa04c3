-- `decibels::raise` meets its contract. The invariant: what is held is the error times the power, and at most P. Assumes nothing.
use Rattle.std.proofs.Common.{◌≡◌, ◌-◌, ◌*◌, ◌^◌, ◌≤◌}
use Rattle.decibels.specs.Inner.Room.{power_limit}
use Rattle.decibels.proofs.raise.Given as goal

abbrev pub invariant-loop-held : goal.invariant-loop-held
invariant-loop-held l = (l.held ≡ 10 ^ l.power * l.error) × (l.error ≤ l.held) × (l.held ≤ l.peak)

abbrev pub decreases-loop-held : goal.decreases-loop-held
decreases-loop-held l = power_limit - l.power

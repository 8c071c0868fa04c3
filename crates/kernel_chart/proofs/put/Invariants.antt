-- The first k places have their taps, and the others stay.
use Rattle.std.proofs.Common.{◌≡◌, ◌++◌, take, drop}
use Rattle.kernel_chart.proofs.put.Given as goal

abbrev pub invariant-loop-k : goal.invariant-loop-k
invariant-loop-k l = l.place-items ≡ take l.k l.ker ++ drop l.k l.initial.place-items

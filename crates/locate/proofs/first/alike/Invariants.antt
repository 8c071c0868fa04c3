-- `locate::first::alike` meets its contract. The loop's invariant: the flag is the test of the samples passed. Assumes nothing.
use Rattle.std.proofs.Common.{◌≡◌, ◌≤◌, length, map}
use Rattle.locate.specs.Inner.Walk.{alike_to}
use Rattle.locate.proofs.first.alike.Given as goal

abbrev pub invariant-loop-p : goal.invariant-loop-p
invariant-loop-p g l =
    let n = length l.yielded in (n ≤ length l.a) × (l.ok ≡ alike_to (map g.S.Sample.value l.a) (map g.S.Sample.value l.b) n)

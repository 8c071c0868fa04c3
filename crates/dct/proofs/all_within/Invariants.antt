-- What is passed is in range, so that the answer is that of the rest.
use Rattle.std.proofs.Common.{◌≡◌, ◌≤◌, length, drop}
use lib.IntN.{nat_abs}
use Rattle.dct.specs.Call as Call
use Rattle.dct.proofs.all_within.Given as goal

abbrev pub invariant-loop-v : goal.invariant-loop-v
invariant-loop-v l =
    (l.v-index ≤ length l.x) × (Call.all_within (nat_abs l.limit) l.x ≡ Call.all_within (nat_abs l.limit) (drop l.v-index l.x))

-- Row j is made of places that are as they were, whose sums fit.
use Rattle.std.proofs.Common.{◌+◌, ◌*◌, ◌≤◌, arith}
use Rattle.std.proofs.Math.Nat.{mul-le-mul_right, lt_of_le_of_lt}
use Rattle.downscale.proofs.Summed.{area_needed, summed_most, sum_still, four_fit}
use Rattle.downscale.proofs.downscale.Goals as goal

pub sum_row-requires-clause-j_bound : goal.sum_row-requires-clause-j_bound
sum_row-requires-clause-j_bound c =
    let down : 2 * c.loop-j.j + 2 ≤ c.args.height = omega arith in
    omega (arith, mul-le-mul_right c.args.width down, c.requires.1.long, area_needed c.args.width c.args.height (omega arith))

pub sum_row-requires-clause-by_index : goal.sum_row-requires-clause-by_index
sum_row-requires-clause-by_index c =
    let l = c.loop-j in
    λ i m. rw (sum_still c.args.longs.now l.longs c.args.width l.j l.invariant.1.rest i) (
    lt_of_le_of_lt (summed_most _ c.args.width c.args.height _ c.requires.1.small l.j i (omega arith) m) four_fit
    )

-- A scale is scored, the planes are halved, and the pairs of the scales below follow.
use Rattle.std.proofs.Common.{arith, length}
use Rattle.downscale.proofs.Summed.{four_fit, bounded_le, bounded_below}
use Rattle.msssim.proofs.ScalePairs.{some_left, none_left, left_fits, rest_length, pairs_step, pairs_none}
use Rattle.msssim.proofs.scales.+pairs_from.Goals as goal

pub totals-requires-clause-width_le_side_limit : goal.totals-requires-clause-width_le_side_limit
totals-requires-clause-width_le_side_limit t c =
    let r = c.requires.width_le_side_limit in
    (r.0, r.1, (left_fits (length c.args.pairs.now) c.args.max (some_left _ c.if-not-is_empty.ensures) c.requires.left_bound).0, r.2)

pub downscale-requires : goal.downscale-requires
downscale-requires t c =
    let fits = left_fits (length c.args.pairs.now) c.args.max (some_left _ c.if-not-is_empty.ensures) c.requires.left_bound in
    (c.requires.width_le_side_limit.1, bounded_le fits.0 c.requires.bounded)

pub downscale-requires-then-not-is_empty : goal.downscale-requires-then-not-is_empty
downscale-requires-then-not-is_empty t c =
    let fits = left_fits (length c.args.pairs.now) c.args.max (some_left _ c.if-not-is_empty.ensures) c.requires.left_bound in
    (c.requires.width_le_side_limit.1, bounded_le fits.0 c.requires.bounded_2)

pub overflow_mul-max : goal.overflow_mul-max
overflow_mul-max t c = omega (arith, left_fits (length c.args.pairs.now) c.args.max (some_left _ c.if-not-is_empty.ensures) c.requires.left_bound, four_fit)

pub pairs_from-requires : goal.pairs_from-requires
pairs_from-requires t c =
    let r = c.requires in
    let a = c.downscale in
    let b = c.downscale-then-not-is_empty in
    let some = some_left (length c.args.pairs.now) c.if-not-is_empty.ensures in
    let rest = rest_length c.pair.result c.args.pairs.now some in (
      rw rest (omega arith),
      (
        omega (arith, r.width_le_side_limit, c.totals.auto.cols),
        (
          rw rest (left_fits (length c.args.pairs.now) c.args.max some r.left_bound).1,
          (
            bounded_below _ _ _ _ _ r.bounded a.ensures a.auto.longs,
            bounded_below _ _ _ _ _ r.bounded_2 b.ensures b.auto.longs,
          ),
        ),
      ),
    )

pub returns-then-not-is_empty : goal.returns-then-not-is_empty
returns-then-not-is_empty t c =
    let s = c.args in
    let a = c.downscale in
    let b = c.downscale-then-not-is_empty in
    pairs_step s.max s.width s.height s.a32.now a.new.longs s.b32.now b.new.longs c.pair.result s.pairs.now c.pairs_from.new.pairs
    (some_left _ c.if-not-is_empty.ensures) (rw (← c.totals.ensures) c.pair.ensures) c.pairs_from.ensures a.ensures b.ensures

pub returns-else-not-is_empty : goal.returns-else-not-is_empty
returns-else-not-is_empty t c = pairs_none _ _ (none_left _ c.if-not-is_empty.ensures)

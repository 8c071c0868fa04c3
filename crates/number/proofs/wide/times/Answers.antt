-- `number::wide::times` meets its contract. Assumes nothing.
use Rattle.std.proofs.Common.{◌+◌, ◌*◌, ◌^◌, ◌<◌, arith}
use Rattle.number.specs.Inner.Wide.{value_of}
use Rattle.number.proofs.Words.{times_is, times_fits}
use Rattle.number.proofs.wide.times.Goals as goal

pub overflow_mul-result : goal.overflow_mul-result
unfolding value_of
overflow_mul-result c =
    let room : c.args.w.hi * c.args.m + c.product-low.result.hi < 2 ^ 64 = times_fits (2 ^ 64) _ _ _ _ _ c.product-low.ensures c.requires in
    omega (arith, room)

pub overflow_add-result : goal.overflow_add-result
unfolding value_of
overflow_add-result c =
    let room : c.args.w.hi * c.args.m + c.product-low.result.hi < 2 ^ 64 = times_fits (2 ^ 64) _ _ _ _ _ c.product-low.ensures c.requires in
    omega (arith, room)

pub returns : goal.returns
unfolding value_of
returns c = times_is (2 ^ 64) _ _ _ _ _ c.product-low.ensures

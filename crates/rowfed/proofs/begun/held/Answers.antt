-- `held` is the taps, then the zeros past them. Assumes nothing.
use Rattle.std.proofs.Common.{◌≤◌, length, sym, arith}
use lib.Seq.{length-take-le}
use Rattle.kernel.specs.Kernel.{most_taps}
use Rattle.rowfed.proofs.Held.{drop_zeros}
use Rattle.rowfed.proofs.begun.held.Goals as goal

pub slice_bounds-places-end : goal.slice_bounds-places-end
unfolding most_taps
slice_bounds-places-end c = omega (arith, c.requires)

pub slice_bounds-copy_from_slice-end : goal.slice_bounds-copy_from_slice-end
unfolding most_taps
slice_bounds-copy_from_slice-end c =
    let few : length c.args.kernel.now ≤ 255 = omega (arith, c.requires) in sym (length-take-le _ _ few)

pub copy_from_slice-requires : goal.copy_from_slice-requires
unfolding most_taps
copy_from_slice-requires c =
    let few : length c.args.kernel.now ≤ 255 = omega (arith, c.requires) in length-take-le _ _ few

pub returns : goal.returns
unfolding most_taps
returns c = rw (c.copy_from_slice.ensures.after, drop_zeros (length c.args.kernel.now) 255)

-- The first scale is the planes that were lent, and its samples are small enough for five.
use Rattle.std.proofs.Common.{arith}
use Rattle.plane.specs.Plane.{max_of, sample_at}
use Rattle.plane.specs.Inner.Seen.{planes}
use Rattle.plane.proofs.Depth.{depth_small}
use Rattle.msssim.specs.Scale.{scale_count}
use Rattle.msssim.proofs.Accept.{first_fits}
use Rattle.msssim.proofs.ScalePairs.{pairs_ext}
use Rattle.msssim.proofs.Scratch.{columns_fit}
use Rattle.msssim.proofs.scales.five_pairs.Goals as goal

pub sample_max-max-requires : goal.sample_max-max-requires
sample_max-max-requires g c = omega (arith, c.requires.planes.sized.depth_most, depth_small g.S.Stored.WIDE)

pub pairs_from-requires-clause-width_le_side_limit : goal.pairs_from-requires-clause-width_le_side_limit
pairs_from-requires-clause-width_le_side_limit g c =
    let s = c.requires in
    let sized = s.planes.sized in
    (sized.width_most, sized.height_most, omega (arith, columns_fit c.args.p.format.width sized.width_least, s.places))

pub pairs_from-requires-clause-left_bound : goal.pairs_from-requires-clause-left_bound
unfolding scale_count
pairs_from-requires-clause-left_bound g c =
    let size = c.args.p.format in
    rw c.sample_max-max.ensures (first_fits g.S.Stored.WIDE size.depth c.requires.planes.sized.depth_most)

pub returns : goal.returns
unfolding scale_count
returns g c =
    let size = c.args.p.format in
    let p = planes g.S.Sample.value g.S.Stored.WIDE c.args.p in
    rw (c.pairs_from.ensures, c.sample_max-max.ensures) (
    pairs_ext 5 (max_of size.depth) size.width size.height _ (sample_at p.a) _ (sample_at p.b) c.widen.ensures.rows c.widen-2.ensures.rows
    )

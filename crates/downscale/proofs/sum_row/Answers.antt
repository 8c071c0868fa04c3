-- The samples of the scale above are still there when they are read, and one more sum is stored.
use Rattle.std.proofs.Common.{◌∙◌, arith, length-set}
use Rattle.plane.specs.Plane.{plane_of, sample_at}
use Rattle.downscale.specs.Summed.{summed_of}
use Rattle.downscale.proofs.Stored.{put_more}
use Rattle.downscale.proofs.Summed.{half_le, sum_same}
use Rattle.downscale.proofs.sum_row.Goals as goal

pub loop-c-preserved : goal.loop-c-preserved
loop-c-preserved c =
    let l = c.loop-c in (
      simp length-set l.invariant.0,
      put_more _ _ _ _ (summed_of (sample_at (plane_of c.args.longs.now c.args.width)) c.args.j) _ l.invariant.1
          (c.sum_2x2.ensures ∙ sum_same _ _ _ _ _ _ l.invariant.1) (omega (arith, half_le c.args.j c.args.width)),
    )

-- One row more stands there, as the numbers that its samples are.
use Rattle.std.proofs.Common.{◌∙◌}
use Rattle.downscale.proofs.Stored.{row_more}
use Rattle.downscale.proofs.widen.Goals as goal

pub loop-y-preserved : goal.loop-y-preserved
loop-y-preserved g c = (
  c.widen_row.auto.longs ∙ c.loop-y.invariant.0,
  row_more g.S.Sample.value c.args.p.samples.now c.row.result.now c.args.p.stride c.args.width c.args.height _ _ _ c.loop-y.y
      c.loop-y.invariant.1 c.row.ensures c.requires.long c.loop-y-test.true c.widen_row.ensures,
)

-- `probe::probe_downscale` meets its contract: what the downscale asks is what the tests say. Assumes nothing.
use Rattle.std.proofs.Common.{sym}
use Rattle.probe.proofs.Accept.{sound}
use Rattle.probe.proofs.probe_downscale.Goals as goal

pub downscale-requires : goal.downscale-requires
downscale-requires c = sound _ _ c.args.longs.now (sym c.in-Ok.ensures)

-- `plain` is the larger of a place and 0. Assumes nothing.
use Rattle.std.proofs.Common.{rules}
use mir.Syntax.{w64}
use mir.ValLaws.{to_z-of_z}
use Rattle.row_ring.proofs.Pairs.{plain_is}
use Rattle.row_ring.proofs.pair.plain.Goals as goal

pub returns : goal.returns
returns c = rw (to_z-of_z w64 c.max.result (search rules), c.max.ensures.value, to_z-of_z w64 c.args.z c.ranges.z) (plain_is c.args.z)

-- `row_ring::pair::put` meets its contract. Assumes nothing.
use Prim.Native.Nat.{◌+◌, ◌*◌}
use native.Mathlib.Omega.{arith}
use mir.Syntax.{w64}
use mir.ValLaws.{to_z_pos}
use Rattle.row_ring.specs.Ring.{packed_of, pair_base}
use Rattle.row_ring.proofs.pair.put.Goals as goal

pub returns : goal.returns
unfolding packed_of pair_base
returns c = rw (to_z_pos w64 (c.args.a + 65536 * c.args.b) (omega arith))

-- `rowfed::ended::close` meets its contract. Assumes nothing.
use mathlib.Core.Path.{◌≡◌}
use Prim.Native.Nat.{◌≤◌}
use native.Mathlib.Omega.{arith}
use lib.ListN.{length, take}
use lib.Seq.{length-take-le}
use Rattle.rowfed.proofs.ended.close.Goals as goal

pub returns : goal.returns
returns c =
    let enough : c.scratch_places-need.result ≤ length c.args.scratch.now = omega (arith, c.scratch_places-need.ensures, c.requires.state_in_bounds) in
    let long : length (take c.scratch_places-need.result c.args.scratch.now) ≡ c.scratch_places-need.result = length-take-le _ _ enough in
    record { value = c.pair.ensures; scratch_after = rw (c.clear.ensures, long, c.scratch_places-need.ensures) }

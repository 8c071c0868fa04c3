-- `rowfed::begin` meets its contract. Assumes nothing.
use mathlib.Core.Path.{sym}
use Prim.Native.Nat.{◌≤◌}
use native.Mathlib.Omega.{arith}
use lib.ListN.{length}
use lib.Seq.{length-take-le}
use Rattle.plane.proofs.Accept.{sides_say}
use Rattle.ssim.proofs.Accept.{taps_count}
use Rattle.rowfed.proofs.Accept.{begun}
use Rattle.rowfed.proofs.begin.Goals as goal

pub scratch_places-need-requires : goal.scratch_places-need-requires
scratch_places-need-requires g c =
    let b = begun _ _ _ (sym c.in_ok-check.ensures) in
    let count = taps_count _ b.kernel in
    (count.0, count.1, (sides_say _ _ b.sides).0.1)

pub slice_bounds-clear-end : goal.slice_bounds-clear-end
slice_bounds-clear-end g c = omega (arith, c.scratch_places-need.ensures, (begun _ _ _ (sym c.in_ok-check.ensures)).lent_enough)

pub slice_bounds-clear-end-2 : goal.slice_bounds-clear-end-2
slice_bounds-clear-end-2 g c =
    sym (length-take-le _ _ (omega (arith, c.scratch_places-need.ensures, (begun _ _ _ (sym c.in_ok-check.ensures)).lent_enough)))

pub new_state-requires : goal.new_state-requires
new_state-requires g c = (taps_count _ (begun _ _ _ (sym c.in_ok-check.ensures)).kernel).1

pub returns : goal.returns
returns g c =
    let b = begun _ _ _ (sym c.in_ok-check.ensures) in
    let enough : c.scratch_places-need.result ≤ length c.args.scratch.now = omega (arith, c.scratch_places-need.ensures, b.lent_enough) in
    record {
      value = rw (← c.in_ok-check.ensures, c.new_state.ensures);
      scratch_after = rw (← c.in_ok-check.ensures, c.clear.ensures, length-take-le _ _ enough, c.scratch_places-need.ensures);
    }

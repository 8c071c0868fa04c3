-- `rowfed::taken::take_under` meets its contract. Assumes nothing.
use mathlib.Core.Path.{◌≡◌, refl, ap, ◌∙◌}
use mathlib.Core.List.{◌++◌}
use Prim.Native.Nat.{ℕ, ◌+◌, ◌*◌, ◌/◌, ◌≤◌, ◌^◌}
use native.Mathlib.Nat.{mul-le-mul}
use native.Mathlib.Omega.{arith}
use lib.ListN.{length, drop}
use lib.Seq.{length-take-le}
use Rattle.plane.specs.Inner.Seen.{planes}
use Rattle.plane.proofs.Limits.{side_small}
use Rattle.kernel.proofs.Says.{taps_room}
use Rattle.ssim.proofs.Powers.{power_le}
use Rattle.row_ring.specs.Taken.{Kept}
use Rattle.rowfed.specs.Feed.{used_places, taken_in}
use Rattle.rowfed.proofs.Tidied.{used_count, roomy, kernel_there, taken_under}
use Rattle.rowfed.proofs.taken.take_under.Goals as goal

pub overflow_mul-used : goal.overflow_mul-used
overflow_mul-used g c = let f = c.requires.sound_feed.state in
    let wide : c.args.state.width ≤ 2 ^ 20 = omega (arith, side_small, f.width_most) in
    let few : c.next_power.result ≤ 2 ^ 40 = omega (arith, taps_room, f.taps_most, c.next_power.ensures, power_le c.args.state.taps f.taps_least) in
    omega (arith, mul-le-mul few wide)

pub overflow_add-used-2 : goal.overflow_add-used-2
overflow_add-used-2 g c =
    let f = c.requires.sound_feed in
    omega (arith, used_count c.args.state c.next_power.result c.args.state.kernel c.next_power.ensures refl f.state, f.state.used_few, f.lent_enough)

pub slice_bounds-take-end : goal.slice_bounds-take-end
slice_bounds-take-end g c =
    let f = c.requires.sound_feed in
    omega (arith, used_count c.args.state c.next_power.result c.args.state.kernel c.next_power.ensures refl f.state, f.state.used_few, f.lent_enough)

pub take-requires : goal.take-requires
take-requires g c =
    let state = c.args.state in
    let used : ℕ = c.next_power.result * state.width + 5 * (state.width + 2 * (state.taps / 2)) in
    let f = c.requires.sound_feed in
    let e = c.next_power.ensures in
    let used-is : used ≡ used_places state = used_count state c.next_power.result state.kernel e refl f.state in
    let fits : used ≤ length c.args.scratch.now = omega (arith, used-is, f.state.used_few, f.lent_enough) in
    let there = kernel_there state _ _ e c.requires.kernel_value f.state in
    record {
      height_bound = (f.room, f.width, f.state.width_most, f.state.height_most);
      long = f.long;
      roomy = roomy state _ _ e c.requires.kernel_value f.state _ (omega (arith, used-is, length-take-le _ c.args.scratch.now fits));
      kernel = there.0;
      lent_total_value = there.1;
    }

pub returns : goal.returns
returns g c =
    let group = planes g.S.Sample.value g.S.Stored.WIDE c.args.p in
    let state = c.args.state in
    let old = c.args.scratch.now in
    let used : ℕ = c.next_power.result * state.width + 5 * (state.width + 2 * (state.taps / 2)) in
    let f = c.requires.sound_feed in
    let used-is : used ≡ used_places state = used_count state c.next_power.result state.kernel c.next_power.ensures refl f.state in
    let fits : used ≤ length old = omega (arith, used-is, f.state.used_few, f.lent_enough) in
    let e = taken_under state _ _ c.next_power.ensures c.requires.kernel_value f.state group old used _ _ _ used-is fits
    c.sample_max.ensures c.squared-max2.ensures c.take.ensures in
    record {
      value = ap (λ (k : Kept). k.totals) e;
      scratch_after = ap (λ (k : Kept). k.places ++ drop used old) e ∙ ap (λ (n : ℕ). (taken_in state group old).places ++ drop n old) used-is;
    }

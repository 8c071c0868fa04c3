-- One more tap is summed, and has room.
use Rattle.std.proofs.Common.{◌≡◌, List, ℕ, ◌+◌, ◌-◌, ◌<◌, ◌/◌, length, get_or, take, drop, refl, sym, arith}
use Rattle.std.proofs.lemmas.Grind.{elements}
use Rattle.kernel.specs.Kernel.{tap}
use Rattle.kernel.proofs.Says.{total_room}
use Rattle.window.proofs.Sums.Windows.{weight_more, weight_part}
use Rattle.window.proofs.row.taps_inside.Goals as goal

-- what stands at place i of the taps inside
tap_there : (ker : List ℕ) (first count i v from : ℕ) → v ≡ get_or (take count (drop from ker)) i 0 → from ≡ first
    → i < length (take count (drop from ker)) → (v ≡ tap ker (first + i)) × (i < count)
tap_there ker first count i v from e f l = (grind (arith, elements), grind (arith, elements))

pub overflow_add-sum : goal.overflow_add-sum
overflow_add-sum c =
    let a = c.args in
    let k = length a.kernel.now / 2 - a.x + c.loop-tap.tap-index in
    let there = tap_there a.kernel.now _ _ c.loop-tap.tap-index _ c.first.result c.from-sum.ensures c.first.ensures c.loop-tap-test.true in
    let more = weight_more a.kernel.now a.side a.x k (k + 1) c.from-sum.result refl there.0 (omega arith) (omega arith) in
    omega (arith, more, weight_part a.kernel.now a.side a.x c.requires.kernel (k + 1) (omega arith), total_room)

pub loop-tap-preserved : goal.loop-tap-preserved
loop-tap-preserved c =
    let a = c.args in
    let k = length a.kernel.now / 2 - a.x + c.loop-tap.tap-index in
    let there = tap_there a.kernel.now _ _ c.loop-tap.tap-index _ c.first.result c.from-sum.ensures c.first.ensures c.loop-tap-test.true in
    rw c.loop-tap.invariant (sym (weight_more a.kernel.now a.side a.x k _ c.from-sum.result (omega arith) there.0 (omega arith) (omega arith)))

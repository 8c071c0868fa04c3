-- `row_ring::run` meets its contract: the taps before k are in. Assumes nothing.
use mathlib.Core.Path.{◌≡◌, ◌∙◌}
use Prim.Native.Nat.{ℕ, ◌≤◌, ◌<◌, ◌-◌, ◌+◌, ◌/◌, ◌%◌, ◌*◌}
use native.Mathlib.Omega.{arith}
use borrow.Author.Rules.{rules}
use lib.ListN.{length}
use Rattle.window.proofs.Sums.Column.{column_more, column_room}
use Rattle.row_ring.specs.Ring.{place_at}
use Rattle.row_ring.proofs.Rings.{slot_inside, along, read_first, read_second, ring_small_a, ring_small_b}
use Rattle.row_ring.proofs.run.Goals as goal

-- where tap k stands: a line further than the tap before it, inside the ring
module _ (width L off y x from upto k at : ℕ) (low : off ≤ y + from) (after : from ≤ k) (below : k < upto)
    (lies : from < upto → (at ≡ place_at width L (y + from - off) x) × ((y + from - off) % L + (upto - from) ≤ L)) where
  tap_place : at + (k - from) * width ≡ place_at width L (y + k - off) x
  tap_place =
      let first = lies (omega arith) in
      along width L (y + from - off) (k - from) (y + k - off) x at (omega arith) (omega (arith, first.1)) first.0

  tap_inside : (n : ℕ) → x < width → L * width ≤ n → at + (k - from) * width < n
  tap_inside n l m =
      let first = lies (omega arith) in
      omega (arith, tap_place, slot_inside width L (y + k - off) n (omega (arith, first.1)) m)

pub loop-k-init : goal.loop-k-init
loop-k-init c = (search rules, omega arith, c.requires.t_value)

pub overflow_mul-i : goal.overflow_mul-i
overflow_mul-i c =
    omega (
      arith,
      tap_inside c.args.ring.width c.args.ring.lines (length c.args.kernel.now / 2) c.args.y c.args.x c.args.from c.args.upto c.loop-k.k c.args.at
          (omega arith) (omega arith) (omega arith) c.requires.at_value _ c.requires.x_lt_width.0 c.requires.x_lt_width.1,
    )

pub overflow_add-i : goal.overflow_add-i
overflow_add-i c =
    omega (
      arith,
      tap_inside c.args.ring.width c.args.ring.lines (length c.args.kernel.now / 2) c.args.y c.args.x c.args.from c.args.upto c.loop-k.k c.args.at
          (omega arith) (omega arith) (omega arith) c.requires.at_value _ c.requires.x_lt_width.0 c.requires.x_lt_width.1,
    )

pub first-requires : goal.first-requires
first-requires c =
    tap_inside c.args.ring.width c.args.ring.lines (length c.args.kernel.now / 2) c.args.y c.args.x c.args.from c.args.upto c.loop-k.k c.args.at
    (omega arith) (omega arith) (omega arith) c.requires.at_value _ c.requires.x_lt_width.0 c.requires.x_lt_width.1

pub second-requires : goal.second-requires
second-requires c =
    tap_inside c.args.ring.width c.args.ring.lines (length c.args.kernel.now / 2) c.args.y c.args.x c.args.from c.args.upto c.loop-k.k c.args.at
    (omega arith) (omega arith) (omega arith) c.requires.at_value _ c.requires.x_lt_width.0 c.requires.x_lt_width.1

pub tapped-t-requires : goal.tapped-t-requires
tapped-t-requires c =
    let r = c.args.ring in
    let off = length c.args.kernel.now / 2 in
    let place = tap_place r.width r.lines off c.args.y c.args.x c.args.from c.args.upto c.loop-k.k c.args.at
    (omega arith) (omega arith) (omega arith) c.requires.at_value in
    let row : ℕ = c.args.y + c.loop-k.k - off in
    column_room _ _ _ _ _ _ _ _ _ _ c.loop-k.invariant.2
    (c.first.ensures ∙ read_first c.args.s.now r.width r.lines row c.args.x _ place)
    (c.second.ensures ∙ read_second c.args.s.now r.width r.lines row c.args.x _ place)
    c.requires.kernel
    (λ i l. ring_small_a c.args.s.now r.width r.lines i c.args.x) (λ i l. ring_small_b c.args.s.now r.width r.lines i c.args.x)
    (omega arith) (omega arith) (omega arith)

pub loop-k-preserved : goal.loop-k-preserved
loop-k-preserved c =
    let r = c.args.ring in
    let off = length c.args.kernel.now / 2 in
    let place = tap_place r.width r.lines off c.args.y c.args.x c.args.from c.args.upto c.loop-k.k c.args.at
    (omega arith) (omega arith) (omega arith) c.requires.at_value in
    let row : ℕ = c.args.y + c.loop-k.k - off in (
      omega arith,
      omega arith,
      column_more _ _ _ _ _ _ _ _ _ _ c.loop-k.invariant.2
          (c.first.ensures ∙ read_first c.args.s.now r.width r.lines row c.args.x _ place)
          (c.second.ensures ∙ read_second c.args.s.now r.width r.lines row c.args.x _ place)
          _ c.tapped-t.ensures (omega arith) (omega arith),
    )

pub returns : goal.returns
returns c = let e : c.loop-k.k ≡ c.args.upto = omega arith in
    rw e at c.loop-k.invariant.2

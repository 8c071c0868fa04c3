-- `row_ring::score_row` meets its contract. Assumes nothing.
use mathlib.Core.Path.{◌≡◌, refl, ◌∙◌}
use mathlib.Core.List.{List}
use Prim.Native.Nat.{ℕ, ◌+◌, ◌-◌, ◌*◌, ◌/◌, ◌≤◌}
use native.Mathlib.Omega.{arith}
use borrow.Rule.Slice.PartMut.{same_len_mid}
use lib.IntN.{ℤ, pos}
use lib.Seq.{ext_get_or}
use lib.ListN.{length, take, drop}
use Rattle.kernel.specs.Kernel.{lent_total}
use Rattle.window.proofs.Sums.Windows.{weight_le}
use Rattle.window.proofs.Sums.Held.{part_length}
use Rattle.row_ring.specs.declared.Ring.{Ring}
use Rattle.row_ring.specs.Ring.{ring_places, ring_a, ring_b}
use Rattle.row_ring.proofs.Rings.{ring_small_a, ring_small_b}
use Rattle.row_ring.proofs.Scored.{rest_length, ready, row_scored, row_cleared}
use Rattle.row_ring.proofs.score_row.Goals as goal

pub weight-down-requires : goal.weight-down-requires
unfolding lent_total
weight-down-requires c =
    record {
      x_lt_side = omega arith;
      kernel = c.requires.kernel;
      total_value = c.requires.lent_total_value;
    }

pub centres-r-requires : goal.centres-r-requires
unfolding lent_total
centres-r-requires c =
    let old : List ℤ = c.args.s.now in
    let ring : Ring = c.args.by.ring in
    let viewA : ℕ → ℕ → ℕ = ring_a old ring.width ring.lines in
    let viewB : ℕ → ℕ → ℕ = ring_b old ring.width ring.lines in
    let filled : List ℤ = c.fill.new.s in
    let kept : length filled ≡ length old = c.fill.auto.s in
    let ker = c.args.by.kernel.now in
    let r = ring in
    record {
      width_le_side_limit = omega (
        arith,
        kept,
        rest_length (ring_places r) filled,
        c.weight-down.ensures,
        weight_le ker r.height c.args.y c.requires.kernel,
      );
      kernel = c.requires.kernel;
      total_value = c.requires.lent_total_value;
      column_sums = ready old filled ker r.width r.height c.args.y (ring_places r) viewA viewB c.requires.clean c.fill.ensures
          c.requires.kernel (ring_small_a old r.width r.lines) (ring_small_b old r.width r.lines) _;
    }

pub returns : goal.returns
returns c =
    let old : List ℤ = c.args.s.now in
    let ring : Ring = c.args.by.ring in
    let viewA : ℕ → ℕ → ℕ = ring_a old ring.width ring.lines in
    let viewB : ℕ → ℕ → ℕ = ring_b old ring.width ring.lines in
    let filled : List ℤ = c.fill.new.s in
    let kept : length filled ≡ length old = c.fill.auto.s in
    let ker = c.args.by.kernel.now in
    let r = ring in
    let to = ring_places r + 5 * (length ker / 2) in
    let k = to + 5 * r.width - to in
    let room : to + k ≤ length filled = omega (arith, kept) in
    let cleared = c.clear in
    record {
      value = rw (c.centres-r.ensures, c.weight-down.ensures)
          (row_scored old filled ker r.width r.height c.args.y (ring_places r) viewA viewB c.requires.clean c.fill.ensures _ _);
      s_unchanged = ext_get_or (pos 0) _ _ (same_len_mid to k filled cleared.new.s cleared.auto.s ∙ kept) (λ i l.
          row_cleared old filled ker r.width r.height c.args.y (ring_places r) viewA viewB c.requires.clean c.fill.ensures to k
          (length (take k (drop to filled))) cleared.new.s refl (omega arith) room
          (cleared.auto.s ∙ part_length to k filled room) cleared.ensures i);
    }

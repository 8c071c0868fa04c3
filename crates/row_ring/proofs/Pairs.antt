-- What a place of 64 signed bits means as a pair of samples. Assumes nothing.
use mathlib.Core.Path.{◌≡◌, refl, ap, ap₂, ◌∙◌}
use mathlib.Core.List.{List, map}
use mathlib.Core.Bool.{true}
use Prim.Native.Nat.{ℕ, zero, suc, ◌≤◌, ◌<◌}
use native.Mathlib.Omega.{arith}
use borrow.Author.Tests.{lt-ltb}
use lib.Dec.{ltb}
use Rattle.std.specs.Int.{int_max}
use lib.IntN.{ℤ, pos, negsuc, nat_abs}
use lib.ListN.{length}
use Rattle.plane.proofs.Rows.{row_inside, row_length, row_at}
use Rattle.plane.specs.Plane.{at, plane_of, sample_at, needed}
use Rattle.plane.specs.Inner.Seen.{row_in}
use Rattle.std.proofs.lemmas.List.{length-map}
use Rattle.window.specs.Inner.Columns.{Put}
use Rattle.row_ring.specs.Ring.{pair_base, packed_of, plain_of, first_of, second_of}

-- whatever stands there, both are words
pub first_small : (z : ℤ) → first_of z < pair_base
unfolding pair_base
first_small z = omega arith

pub second_small : (z : ℤ) → second_of z < pair_base
unfolding pair_base
second_small z = omega arith

-- a pair of words comes back
pub first_packed : (a b : ℕ) → a < pair_base → first_of (pos (packed_of a b)) ≡ a
unfolding pair_base plain_of packed_of
first_packed a b l = omega arith

pub second_packed : (a b : ℕ) → a < pair_base → b < pair_base → second_of (pos (packed_of a b)) ≡ b
unfolding pair_base plain_of packed_of
second_packed a b l m = omega arith

-- the larger of a place and 0
pub plain_is : (z : ℤ) → nat_abs (int_max z (pos 0)) ≡ plain_of z
unfolding plain_of
plain_is (pos zero) = refl
plain_is (pos (suc n)) = let e : ltb 0 (suc n) ≡ true = lt-ltb 0 (suc n) (omega arith) in rw e
plain_is (negsuc n) = refl

-- ---- pairs of rows of samples
module _ {S : Type 0} (value : S → ℕ) where
  abbrev pub pairs : List S → List S → ℕ → ℕ
  pairs first second x = packed_of (at (map value first) x) (at (map value second) x)

  -- those of row i of two planes
  pub pairs_put : (p q first second : List S) (stride_p stride_q width height i from : ℕ) (old new : List ℤ)
      → first ≡ row_in p stride_p width i → second ≡ row_in q stride_q width i → i < height
      → needed width height stride_p ≤ length (map value p) → needed width height stride_q ≤ length (map value q)
      → Put old new from (length first) (pairs first second)
      → Put old new from width (λ (x : ℕ). packed_of (sample_at (plane_of (map value p) stride_p) i x) (sample_at (plane_of (map value q) stride_q) i x))
  pairs_put p q first second stride_p stride_q width height i from old new e f l long_p long_q put =
      let in_p = row_inside width stride_p (rw length-map at long_p) l in
      let in_q = row_inside width stride_q (rw length-map at long_q) l in
      let stored = rw (e, f, row_length value p stride_p width i in_p) at put in
      record {
        there = λ x m. stored.there x m ∙ ap pos (ap₂ packed_of (row_at value p stride_p width i in_p x m) (row_at value q stride_q width i in_q x m));
        before = stored.before;
        after = stored.after;
      }

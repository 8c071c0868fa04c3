-- Where the rows of a plane stand, and what test 6 says of a row that is a part of a slice. Assumes nothing.
use mathlib.Core.Path.{◌≡◌, refl, sym, ◌∙◌}
use mathlib.Core.Bool.{Bool, true, false}
use mathlib.Core.List.{List, map}
use Rattle.std.proofs.lemmas.List.{take-map, drop-map}
use Prim.Native.Nat.{ℕ, ◌+◌, ◌*◌, ◌-◌, ◌/◌, ◌≤◌, ◌<◌}
use native.Mathlib.Nat.{mul-le-mul_right, mul_comm, le-div_iff_mul-le, lt_of_not-le, not-le_of_lt, le_trans}
use native.Mathlib.Omega.{arith}
use borrow.Author.Tests.{leb-true, leb-false, le-leb, lt-leb}
use lib.Dec.{leb}
use lib.ListN.{length, drop, length-drop}
use lib.Seq.{length-take-le, get_or-take, get_or-drop}
use Rattle.plane.specs.Plane.{Size, Plane, plane_of, at, sample_at, needed}
use Rattle.plane.specs.Inner.Seen.{row_in, Long}
use Rattle.plane.specs.Tests.{long_enough, none_above, row_suits}
use Rattle.plane.proofs.All.{none_ext, none_true}

-- each row of a plane that is long enough ends inside it
pub row_inside : (width stride : ℕ) {height n y : ℕ} → needed width height stride ≤ n → y < height → y * stride + width ≤ n
row_inside width stride {height} {n} {y} long l =
    let k : y * stride ≤ (height - 1) * stride = mul-le-mul_right stride (omega arith) in
    omega (arith, k, mul_comm stride (height - 1))

-- and so does each sample
pub inside : {width height n x y : ℕ} (stride : ℕ) → needed width height stride ≤ n → x < width → y < height → y * stride + x < n
inside {width} stride long lx ly = omega (arith, row_inside width stride long ly)

-- ---- row y as a part of the samples, and as the numbers that they are
module _ {S : Type 0} (value : S → ℕ) (samples : List S) (stride width y : ℕ) (h : y * stride + width ≤ length samples) where
  pub row_length : length (row_in samples stride width y) ≡ width
  row_length = length-take-le width (drop (y * stride) samples) (simp length-drop (omega arith))

  pub row_at : (x : ℕ) → x < width → at (map value (row_in samples stride width y)) x ≡ sample_at (plane_of (map value samples) stride) y x
  row_at x l =
      rw (← (take-map value width (drop (y * stride) samples)), ← (drop-map value (y * stride) samples))
      (get_or-take width (drop (y * stride) (map value samples)) x 0 l ∙ get_or-drop (y * stride) (map value samples) x 0)

  -- what test 6 says of it
  pub row_judged : (max : ℕ) → none_above max (at (map value (row_in samples stride width y))) (length (row_in samples stride width y))
      ≡ row_suits max width (plane_of (map value samples) stride) y
  unfolding row_suits
  row_judged max = rw row_length (none_ext max _ _ width row_at)

-- ---- test 5 by a division
-- two tests that follow from each other are one
same_test : (a b c d : ℕ) → (a ≤ b → c ≤ d) → (c ≤ d → a ≤ b) → leb a b ≡ leb c d
same_test a b c d to from = go (leb a b) refl
  where
    go : (t : Bool) → leb a b ≡ t → leb a b ≡ leb c d
    go true e = e ∙ sym (le-leb c d (to (leb-true a b e)))
    go false e = e ∙ sym (lt-leb c d (lt_of_not-le (λ l. not-le_of_lt (leb-false a b e) (from l))))

module _ (size : Size) (p : Plane) {n : ℕ} (e : n ≡ length p.samples) where
  pub too_short : n < size.width → false ≡ long_enough size p
  unfolding long_enough
  too_short l = sym (lt-leb _ (length p.samples) (omega arith))

  pub by_division : 1 ≤ p.stride → size.width ≤ n → leb size.height ((n - size.width) / p.stride + 1) ≡ long_enough size p
  unfolding long_enough
  by_division s w =
      let height = size.height in
      let rest = n - size.width in
      let m = mul_comm p.stride (height - 1) in
      let rows = le-div_iff_mul-le {k = p.stride} {x = height - 1} {y = rest} s in
      same_test height (rest / p.stride + 1) (needed size.width size.height p.stride) (length p.samples)
      (λ (l : height ≤ rest / p.stride + 1). omega (arith, rows.0 (omega arith)))
      (λ (l : Long size p). omega (arith, rows.1 (omega arith)))

-- ---- no byte is above a sample_max of 255, so that bytes need not be read
pub bytes_suit : (max : ℕ) (bytes : List ℕ) → ((i : ℕ) → at bytes i ≤ 255) → 255 ≤ max → none_above max (at bytes) (length bytes) ≡ true
bytes_suit max bytes small top = none_true _ _ (length bytes) (λ (i : ℕ). le_trans (small i) top)

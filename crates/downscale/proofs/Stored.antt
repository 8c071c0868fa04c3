-- Laws of the lent 32-bit places: one store more in a row, and one row more. Assumes nothing.
use mathlib.Core.Path.{◌≡◌, sym, ap, ◌∙◌}
use mathlib.Core.List.{List, ◌++◌, map}
use Prim.Native.Nat.{ℕ, ◌+◌, ◌*◌, ◌<◌, ◌≤◌}
use native.Mathlib.Nat.{ne_of_lt, add-mul, one-mul, mul-le-mul_right}
use native.Mathlib.Omega.{arith}
use borrow.Author.Count.{below_more}
use lib.ListN.{length, get_or, set, take, drop}
use lib.Seq.{get_or-set_same, get_or-set_other}
use Rattle.std.proofs.lemmas.Grind.{elements}
use Rattle.std.proofs.lemmas.List.{length-map}
use Rattle.plane.specs.Plane.{at, plane_of, sample_at, needed}
use Rattle.plane.specs.Inner.Seen.{row_in}
use Rattle.plane.proofs.Rows.{row_inside, row_length, row_at}
use Rattle.plane.proofs.All.{at_value}
use Rattle.downscale.specs.Inner.Longs.{Put, Filled}

-- ---- a row
pub put_more : (old l : List ℕ) (from n : ℕ) (g : ℕ → ℕ) (v : ℕ) → Put old l from n g → v ≡ g n → from + n < length l
    → Put old (set l (from + n) v) from (n + 1) g
put_more old l from n g v p e h =
    record {
      there = below_more (λ (i : ℕ). at (set l (from + n) v) (from + i) ≡ g i) n
          (λ i (m : i < n). get_or-set_other l (from + n) (from + i) v 0 (ne_of_lt (omega arith)) ∙ p.there i m)
          (get_or-set_same l (from + n) v 0 h ∙ e);
      before = λ i m. get_or-set_other l (from + n) i v 0 (ne_of_lt (omega arith)) ∙ p.before i m;
      after = λ i m. get_or-set_other l (from + n) i v 0 (λ q. absurd (omega arith)) ∙ p.after i (omega arith);
    }

-- a row of n numbers put back in the place of those from `from` on
pub row_put : (old row : List ℕ) (from n m x : ℕ) (g : ℕ → ℕ) → from + n ≤ length old → m ≡ n → length row ≡ length (take m (drop from old))
    → length (take m (drop from old)) ≤ x → ((i : ℕ) → i < x → at row i ≡ g i) → Put old (take from old ++ (row ++ drop m (drop from old))) from n g
row_put old row from n m x g room e same whole h =
    let len : length row ≡ n = grind (arith, elements) in
    record {
      there = λ i l. let e : at (take from old ++ (row ++ drop m (drop from old))) (from + i) ≡ at row i = grind (arith, elements) in e ∙ h i (omega (arith, same, whole, len));
      before = λ i l. grind (arith, elements);
      after = λ i l. grind (arith, elements);
    }

-- what a read of a sample of a row gives
pub row_read : {S : Type 0} (value : S → ℕ) (row : List S) (i v : ℕ) (x : S) → x ≡ get_or row i x → v ≡ value (get_or row i x) → i < length row
    → v ≡ at (map value row) i
row_read value row i v x e w l = w ∙ ap value (sym e) ∙ sym (at_value value row i e l)

-- ---- all rows
next : (y w : ℕ) → (y + 1) * w ≡ y * w + w
next y w = rw (add-mul y 1 w, one-mul w)

pub filled_more : (old l l' : List ℕ) (width : ℕ) (v : ℕ → ℕ → ℕ) (y : ℕ) (g : ℕ → ℕ) → Filled old l width v y
    → Put l l' (y * width) width g → ((c : ℕ) → c < width → g c ≡ v y c) → Filled old l' width v (y + 1)
filled_more old l l' width v y g f p e =
    record {
      rows = λ r c m k. below_more (λ (r : ℕ). at l' (r * width + c) ≡ v r c) y
          (λ r (n : r < y). p.before _ (omega (arith, mul-le-mul_right width n, next r width)) ∙ f.rows r c n k)
          (p.there c k ∙ e c k) r m;
      rest = λ i m. p.after i (omega (arith, next y width)) ∙ f.rest i (omega (arith, next y width));
    }

-- a row of a plane, as the numbers that its samples are
pub row_more : {S : Type 0} (value : S → ℕ) (samples row : List S) (stride width height : ℕ) (old l l' : List ℕ) (y : ℕ)
    → Filled old l width (sample_at (plane_of (map value samples) stride)) y → row ≡ row_in samples stride width y
    → needed width height stride ≤ length (map value samples) → y < height → Put l l' (y * width) (length row) (at (map value row))
    → Filled old l' width (sample_at (plane_of (map value samples) stride)) (y + 1)
row_more value samples row stride width height old l l' y f e long m p =
    let inside = row_inside width stride (rw length-map at long) m in
    let put = rw (e, row_length value samples stride width y inside) at p in
    filled_more old l l' width _ y _ f put (row_at value samples stride width y inside)

-- The transform of a block and its inverse undo each other, whatever the sizes. Assumes nothing.
use mathlib.Core.Path.{◌≡◌, refl, sym, ap, ap₂, ◌∙◌}
use mathlib.Core.List.{List, [], ◌∷◌, ◌++◌}
use Prim.Native.Nat.{ℕ, zero, suc, ◌+◌, ◌<◌}
use native.Mathlib.Omega.{arith}
use lib.IntN.{ℤ, pos}
use lib.ListN.{length, get_or, drop}
use lib.Seq.{drop-cons, drop-length}
use Rattle.lifting.specs.Steps.{run, undo_all, steps}
use Rattle.dct.specs.Block.{column, row, input_order, input_order⁻¹, fdct8, idct8, rows, fdct8_columns, transposed, idct8_rows, fdct8x8, idct8x8}
use Rattle.lifting.proofs.Trip.{there_and_back, back_and_there, length_run}
use Rattle.dct.proofs.Blocks.{length_fdct8, length_rows}

-- the n elements from k on, one by one
count : ℕ → ℕ → List ℤ → List ℤ
count k zero b = []
count k (suc n) b = get_or b k (pos 0) ∷ count (suc k) n b

counted : (k n : ℕ) (b : List ℤ) → k + n ≡ length b → count k n b ≡ drop k b
unfolding count
counted k zero b e = sym (ap (λ (j : ℕ). drop j b) (let q : k ≡ length b = omega arith in q) ∙ drop-length b)
counted k (suc n) b e =
    ap (λ (l : List ℤ). get_or b k (pos 0) ∷ l) (counted (suc k) n b (omega arith)) ∙ sym (drop-cons b k (pos 0) (omega arith))

abbrev eight : (ℕ → ℤ) → List ℤ
eight g = g 0 ∷ g 1 ∷ g 2 ∷ g 3 ∷ g 4 ∷ g 5 ∷ g 6 ∷ g 7 ∷ []

of_eight : (v : List ℤ) → length v ≡ 8 → eight (λ k. get_or v k (pos 0)) ≡ v
unfolding count
of_eight v e = counted 0 8 v (sym e)

of_rows : (b : List ℤ) → length b ≡ 64 → rows (λ i. row i b) 8 ≡ b
unfolding count
of_rows b e = counted 0 64 b (sym e)

-- ---- eight numbers

fdct8_undone : (x : List ℤ) → length x ≡ 8 → idct8 (fdct8 x) ≡ x
unfolding fdct8 idct8
fdct8_undone x e = ap input_order⁻¹ (there_and_back (input_order x) refl) ∙ of_eight x e

undone_fdct8 : (t : List ℤ) → length t ≡ 8 → fdct8 (idct8 t) ≡ t
unfolding fdct8 idct8
undone_fdct8 t e =
    ap (run steps) (of_eight (run (undo_all steps) t) (length_run (undo_all steps) t ∙ e)) ∙ back_and_there t e

pub length_idct8 : (t : List ℤ) → length (idct8 t) ≡ 8
unfolding idct8
length_idct8 t = refl

-- ---- rows and columns of rows

-- what holds of each of the eight is had by computing each
row_of : (g : ℕ → ℕ → ℤ) (i : ℕ) → i < 8 → row i (rows (λ k. eight (g k)) 8) ≡ eight (g i)
row_of g zero h = refl
row_of g (suc zero) h = refl
row_of g (suc (suc zero)) h = refl
row_of g (suc (suc (suc zero))) h = refl
row_of g (suc (suc (suc (suc zero)))) h = refl
row_of g (suc (suc (suc (suc (suc zero))))) h = refl
row_of g (suc (suc (suc (suc (suc (suc zero)))))) h = refl
row_of g (suc (suc (suc (suc (suc (suc (suc zero))))))) h = refl
row_of g (suc (suc (suc (suc (suc (suc (suc (suc i)))))))) h = absurd (omega arith)

column_transposed : (b : List ℤ) (i : ℕ) → i < 8 → column i (transposed b) ≡ row i b
unfolding transposed
column_transposed b zero h = refl
column_transposed b (suc zero) h = refl
column_transposed b (suc (suc zero)) h = refl
column_transposed b (suc (suc (suc zero))) h = refl
column_transposed b (suc (suc (suc (suc zero)))) h = refl
column_transposed b (suc (suc (suc (suc (suc zero))))) h = refl
column_transposed b (suc (suc (suc (suc (suc (suc zero)))))) h = refl
column_transposed b (suc (suc (suc (suc (suc (suc (suc zero))))))) h = refl
column_transposed b (suc (suc (suc (suc (suc (suc (suc (suc i)))))))) h = absurd (omega arith)

rows_same : (f g : ℕ → List ℤ) (n : ℕ) → ((k : ℕ) → k < n → f k ≡ g k) → rows f n ≡ rows g n
rows_same f g zero h = refl
rows_same f g (suc n) h = ap₂ (λ (x y : List ℤ). x ++ y) (rows_same f g n (λ k l. h k (omega arith))) (h n (omega arith))

row_rows : (f : ℕ → List ℤ) → ((k : ℕ) → length (f k) ≡ 8) → (i : ℕ) → i < 8 → row i (rows f 8) ≡ f i
row_rows f h i l =
    ap (row i) (rows_same f (λ k. eight (λ j. get_or (f k) j (pos 0))) 8 (λ k _. sym (of_eight (f k) (h k))))
    ∙ row_of (λ k j. get_or (f k) j (pos 0)) i l ∙ of_eight (f i) (h i)

-- ---- blocks

transposed_twice : (b : List ℤ) → length b ≡ 64 → transposed (transposed b) ≡ b
unfolding transposed
transposed_twice b e = rows_same (λ i. column i (transposed b)) (λ i. row i b) 8 (λ i l. column_transposed b i l) ∙ of_rows b e

fdct8_columns_undone : (b : List ℤ) → length b ≡ 64 → idct8_rows (fdct8_columns b) ≡ b
unfolding fdct8_columns idct8_rows transposed
fdct8_columns_undone b e =
    ap transposed
    (rows_same (λ i. idct8 (row i (fdct8_columns b))) (λ i. column i b) 8
    (λ i l. ap idct8 (row_rows (λ k. fdct8 (column k b)) (λ k. length_fdct8 (column k b)) i l) ∙ fdct8_undone (column i b) refl))
    ∙ transposed_twice b e

undone_fdct8_columns : (z : List ℤ) → length z ≡ 64 → fdct8_columns (idct8_rows z) ≡ z
unfolding fdct8_columns idct8_rows
undone_fdct8_columns z e =
    let y = rows (λ i. idct8 (row i z)) 8 in
    rows_same (λ i. fdct8 (column i (transposed y))) (λ i. row i z) 8
    (λ i l. ap fdct8 (column_transposed y i l ∙ row_rows (λ k. idct8 (row k z)) (λ k. length_idct8 (row k z)) i l) ∙ undone_fdct8 (row i z) refl)
    ∙ of_rows z e

pub length_fdct8_columns : (b : List ℤ) → length (fdct8_columns b) ≡ 64
unfolding fdct8_columns
length_fdct8_columns b = length_rows (λ i. fdct8 (column i b)) (λ i. length_fdct8 (column i b)) 8

length_idct8_rows : (b : List ℤ) → length (idct8_rows b) ≡ 64
unfolding idct8_rows transposed
length_idct8_rows b = refl

pub length_fdct8x8 : (b : List ℤ) → length (fdct8x8 b) ≡ 64
unfolding fdct8x8
length_fdct8x8 b = length_fdct8_columns (fdct8_columns b)

pub length_idct8x8 : (z : List ℤ) → length (idct8x8 z) ≡ 64
unfolding idct8x8
length_idct8x8 z = length_idct8_rows (idct8_rows z)

-- the inverse of the transform's result is the block
pub undo_transform : (b : List ℤ) → length b ≡ 64 → idct8x8 (fdct8x8 b) ≡ b
unfolding fdct8x8 idct8x8
undo_transform b e = ap idct8_rows (fdct8_columns_undone (fdct8_columns b) (length_fdct8_columns b)) ∙ fdct8_columns_undone b e

-- the transform carries the inverse's result to the coefficients
pub transform_undo : (z : List ℤ) → length z ≡ 64 → fdct8x8 (idct8x8 z) ≡ z
unfolding fdct8x8 idct8x8
transform_undo z e = ap fdct8_columns (undone_fdct8_columns (idct8_rows z) (length_idct8_rows z)) ∙ undone_fdct8_columns z e

-- it is the only block that it carries there
pub only : (b z : List ℤ) → length b ≡ 64 → fdct8x8 b ≡ z → b ≡ idct8x8 z
only b z e h = sym (undo_transform b e) ∙ ap idct8x8 h

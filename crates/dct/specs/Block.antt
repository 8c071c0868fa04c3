-- SCOPE, "The transform": a pass over eight numbers (the Rust's `od_bin_fdct8`), two rounds of eight passes over a block of 64 places, row by
-- row (its `od_bin_fdct8x8`), and both undone. Definitions only.
use Rattle.std.specs.Prelude.{List, [], ◌∷◌, ◌++◌, ℕ, zero, suc, ◌+◌, ◌*◌, ℤ, pos, get_or}
use Rattle.lifting.specs.Steps.{run, steps, undo_all}
use Rattle.dct.specs.Limits.{block_side}

-- eight numbers of a block: the first at a place, each so many places after the one before
abbrev pub spaced : ℕ → ℕ → List ℤ → List ℤ
spaced at by b =
    get_or b at (pos 0) ∷ get_or b (at + by) (pos 0) ∷ get_or b (at + 2 * by) (pos 0) ∷ get_or b (at + 3 * by) (pos 0)
    ∷ get_or b (at + 4 * by) (pos 0) ∷ get_or b (at + 5 * by) (pos 0) ∷ get_or b (at + 6 * by) (pos 0) ∷ get_or b (at + 7 * by) (pos 0) ∷ []

abbrev pub column : ℕ → List ℤ → List ℤ
column i = spaced i block_side

abbrev pub row : ℕ → List ℤ → List ℤ
row i = spaced (block_side * i) 1

-- t0 t4 t2 t6 t7 t3 t5 t1 take x0 to x7; and back
abbrev pub input_order : List ℤ → List ℤ
input_order x = let g : ℕ → ℤ = λ k. get_or x k (pos 0) in g 0 ∷ g 7 ∷ g 2 ∷ g 5 ∷ g 1 ∷ g 6 ∷ g 3 ∷ g 4 ∷ []

abbrev pub input_order⁻¹ : List ℤ → List ℤ
input_order⁻¹ t = let g : ℕ → ℤ = λ k. get_or t k (pos 0) in g 0 ∷ g 4 ∷ g 2 ∷ g 6 ∷ g 7 ∷ g 3 ∷ g 5 ∷ g 1 ∷ []

-- one pass over eight numbers, and the same steps undone
unfoldable pub fdct8 : List ℤ → List ℤ
fdct8 x = run steps (input_order x)

unfoldable pub idct8 : List ℤ → List ℤ
idct8 t = input_order⁻¹ (run (undo_all steps) t)

-- the first n rows, row i being f i
abbrev pub rows : (ℕ → List ℤ) → ℕ → List ℤ
rows f zero = []
rows f (suc n) = rows f n ++ f n

-- column i goes to row i, through the pass: one round, and two
unfoldable pub fdct8_columns : List ℤ → List ℤ
fdct8_columns b = rows (λ i. fdct8 (column i b)) block_side

unfoldable pub fdct8x8 : List ℤ → List ℤ
fdct8x8 b = fdct8_columns (fdct8_columns b)

-- rows and columns exchanged
unfoldable pub transposed : List ℤ → List ℤ
transposed b = rows (λ i. column i b) block_side

-- row i goes to column i, through the pass undone: one round back, and two
unfoldable pub idct8_rows : List ℤ → List ℤ
idct8_rows b = transposed (rows (λ i. idct8 (row i b)) block_side)

unfoldable pub idct8x8 : List ℤ → List ℤ
idct8x8 b = idct8_rows (idct8_rows b)

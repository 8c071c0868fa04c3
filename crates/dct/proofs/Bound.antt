-- How large coefficients, and the numbers between the two passes, can be. Assumes nothing.
use mathlib.Core.List.{List, [], ◌∷◌, ◌++◌}
use Prim.Native.Nat.{ℕ, zero, suc, ◌≤◌}
use native.Mathlib.Nat.{le_refl, le_trans}
use lib.Dec.{T, leb, leb→le, lit≤}
use lib.IntN.{ℤ}
use Rattle.dct.specs.Limits.{forward_limit, inverse_limit}
use Rattle.dct.specs.Inner.Coefficients.{coefficient_limit}
use Rattle.lifting.specs.Inner.Operation.{run_limit, undo_limit}
use Rattle.lifting.specs.Inner.Within.{AllWithin}
use Rattle.lifting.specs.Steps.{run, steps, steps1, steps2, steps3, steps4, steps5, undo_all}
use Rattle.dct.specs.Block.{fdct8, idct8, input_order, column, row, rows, fdct8_columns, transposed, idct8_rows, fdct8x8}
use Rattle.lifting.proofs.Forms.{reach, reached}
use Rattle.dct.proofs.Blocks.{ordered_within, small_at, small_column, small_row}

-- ---- lists

small_append : (n : ℕ) (a b : List ℤ) → AllWithin n a → AllWithin n b → AllWithin n (a ++ b)
small_append n [] b h k = k
small_append n (x ∷ a) b h k = (h.0, small_append n a b h.1 k)

small_rows : (m : ℕ) (f : ℕ → List ℤ) → ((k : ℕ) → AllWithin m (f k)) → (n : ℕ) → AllWithin m (rows f n)
small_rows m f h zero = tt
small_rows m f h (suc n) = small_append m (rows f n) (f n) (small_rows m f h n) (h n)

pub small_mono : {n m : ℕ} → n ≤ m → (v : List ℤ) → AllWithin n v → AllWithin m v
small_mono l [] h = tt
small_mono l (a ∷ v) h = (record { le = le_trans h.0.le l }, small_mono l v h.1)

-- ---- a pass, and the pass undone, over a block

module _ (n m : ℕ) (l : reach 8 steps n ≤ m) where
  fdct8_small : (x : List ℤ) → AllWithin n x → AllWithin m (fdct8 x)
  unfolding fdct8
  fdct8_small x h =
      reached steps n m (input_order x) l (ordered_within n x h)

  fdct8_columns_small : (b : List ℤ) → AllWithin n b → AllWithin m (fdct8_columns b)
  unfolding fdct8_columns
  fdct8_columns_small b h = small_rows m (λ i. fdct8 (column i b)) (λ i. fdct8_small (column i b) (small_column n b h i)) 8

module _ (n m : ℕ) (l : reach 8 (undo_all steps) n ≤ m) where
  idct8_small : (i : ℕ) (b : List ℤ) → AllWithin n b → AllWithin m (idct8 (row i b))
  unfolding idct8
  idct8_small i b h =
      let w = small_at m (run (undo_all steps) (row i b)) (reached (undo_all steps) n m (row i b) l (small_row n b h i)) in
      (w 0, (w 4, (w 2, (w 6, (w 7, (w 3, (w 5, (w 1, tt))))))))

  idct8_rows_small : (b : List ℤ) → AllWithin n b → AllWithin m (idct8_rows b)
  unfolding idct8_rows transposed
  idct8_rows_small b h =
      let y = rows (λ i. idct8 (row i b)) 8 in
      let s = small_rows m (λ i. idct8 (row i b)) (λ i. idct8_small i b h) 8 in
      small_rows m (λ i. column i y) (λ i. small_column m y s i) 8

-- ---- what the calls take

-- what is computed: the sizes after one pass and after two
record Computed : Type 0 where
  middle : T (leb (reach 8 steps forward_limit) run_limit)
  coefficients : T (leb (reach 8 steps (reach 8 steps forward_limit)) coefficient_limit)
  returned : T (leb coefficient_limit inverse_limit)
  middle_back : T (leb (reach 8 (undo_all steps) inverse_limit) undo_limit)

computed : Computed
unfolding reach steps steps1 steps2 steps3 steps4 steps5
computed = record { middle = tt; coefficients = tt; returned = tt; middle_back = tt }

pub middle_small : (b : List ℤ) → AllWithin forward_limit b → AllWithin run_limit (fdct8_columns b)
middle_small = fdct8_columns_small forward_limit run_limit (leb→le _ run_limit computed.middle)

pub middle_back_small : (z : List ℤ) → AllWithin inverse_limit z → AllWithin undo_limit (idct8_rows z)
middle_back_small = idct8_rows_small inverse_limit undo_limit (leb→le _ undo_limit computed.middle_back)

-- and what the calls take is small enough for the first
pub first_small : (b : List ℤ) → AllWithin forward_limit b → AllWithin run_limit b
first_small = small_mono (lit≤ tt)

pub first_back_small : (z : List ℤ) → AllWithin inverse_limit z → AllWithin undo_limit z
first_back_small = small_mono (lit≤ tt)

pub ruleset two_rounds = (first_small, middle_small, first_back_small, middle_back_small)

-- every coefficient of a block that forward takes
pub coefficient_bound : (b : List ℤ) → AllWithin forward_limit b → AllWithin coefficient_limit (fdct8x8 b)
unfolding fdct8x8
coefficient_bound b h =
    let m = reach 8 steps forward_limit in
    fdct8_columns_small m coefficient_limit (leb→le (reach 8 steps m) coefficient_limit computed.coefficients) (fdct8_columns b)
    (fdct8_columns_small forward_limit m (le_refl m) b h)

-- so the inverse takes them
pub returned : (b : List ℤ) → AllWithin forward_limit b → AllWithin inverse_limit (fdct8x8 b)
returned b h = small_mono (leb→le coefficient_limit inverse_limit computed.returned) (fdct8x8 b) (coefficient_bound b h)

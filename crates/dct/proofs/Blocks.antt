-- Blocks of 64 as rows and columns. Assumes nothing.
use mathlib.Core.Path.{◌≡◌, refl, sym, ap, ap₂, ◌∙◌}
use mathlib.Core.List.{List, [], ◌∷◌, ◌++◌, append_assoc, append-nil}
use Prim.Native.Nat.{ℕ, zero, suc, ◌+◌, ◌-◌, ◌*◌, ◌≤◌, zero-le}
use native.Mathlib.Omega.{arith}
use native.Mathlib.Numerals.{add-one}
use lib.IntN.{ℤ, pos}
use lib.ListN.{length, get_or, take, drop, length-append, drop_of_length-le}
use lib.Seq.{take_at, drop_at, take-length, drop-length, drop-drop}
use borrow.Rule.Slice.PartMut.{put_mid, same_len_mid}
use Rattle.lifting.specs.Inner.Within.{AllWithin, Within}
use Rattle.dct.specs.Block.{rows, spaced, column, row, fdct8, input_order}
use Rattle.lifting.specs.Steps.{steps}
use Rattle.lifting.proofs.Trip.{length_run}

-- ---- sizes

pub small_at : (n : ℕ) (b : List ℤ) → AllWithin n b → (k : ℕ) → Within n (get_or b k (pos 0))
small_at n [] h k = record { le = zero-le }
small_at n (a ∷ b) h zero = h.0
small_at n (a ∷ b) h (suc k) = small_at n b h.1 k

small_spaced : (n at by : ℕ) (b : List ℤ) → AllWithin n b → AllWithin n (spaced at by b)
small_spaced n at by b h =
    let w = small_at n b h in
    (w at, (w (at + by), (w (at + 2 * by), (w (at + 3 * by), (w (at + 4 * by), (w (at + 5 * by), (w (at + 6 * by), (w (at + 7 * by), tt))))))))

pub small_column : (n : ℕ) (b : List ℤ) → AllWithin n b → (i : ℕ) → AllWithin n (column i b)
small_column n b h i = small_spaced n i 8 b h

pub small_row : (n : ℕ) (b : List ℤ) → AllWithin n b → (i : ℕ) → AllWithin n (row i b)
small_row n b h i = small_spaced n (8 * i) 1 b h

-- in the order of the inputs
pub ordered_within : (n : ℕ) (x : List ℤ) → AllWithin n x → AllWithin n (input_order x)
ordered_within n x h = let w = small_at n x h in (w 0, (w 7, (w 2, (w 5, (w 1, (w 6, (w 3, (w 4, tt))))))))

pub length_fdct8 : (x : List ℤ) → length (fdct8 x) ≡ 8
unfolding fdct8
length_fdct8 x = length_run steps (input_order x)

-- ---- rows, one more at a time

pub length_rows : (f : ℕ → List ℤ) → ((k : ℕ) → length (f k) ≡ 8) → (n : ℕ) → length (rows f n) ≡ 8 * n
length_rows f h zero = refl
length_rows f h (suc n) = length-append (rows f n) (f n) ∙ omega (arith, length_rows f h n, h n)

-- the part from a on is lent, and comes back with its first eight replaced
mid : (a : ℕ) (r d out y : List ℤ) → out ≡ r ++ d → length r ≡ a
    → put_mid a (length out - a) out (y ++ drop 8 (take (length out - a) (drop a out))) ≡ r ++ (y ++ drop 8 d)
mid a r d out y e l =
    let len : length (r ++ d) - a ≡ length d = omega (arith, length-append r d) in
    rw (e, take_at r d a l, drop_at r d a l, len, take-length d, drop-length d, append-nil (y ++ drop 8 d))

pub rows_more : (f : ℕ → List ℤ) (i : ℕ) (out out₀ part : List ℤ) → ((k : ℕ) → length (f k) ≡ 8) → out ≡ rows f i ++ drop (8 * i) out₀
    → part ≡ f i ++ drop 8 (take (length out - 8 * i) (drop (8 * i) out))
    → put_mid (8 * i) (length out - 8 * i) out part ≡ rows f (i + 1) ++ drop (8 * (i + 1)) out₀
rows_more f i out out₀ part h e p =
    let q : 8 * i + 8 ≡ 8 * (i + 1) = omega arith in
    rw p (mid (8 * i) (rows f i) (drop (8 * i) out₀) out (f i) e (length_rows f h i)
    ∙ sym (append_assoc (rows f i) (f i) (drop 8 (drop (8 * i) out₀)))
    ∙ ap₂ (λ (x y : List ℤ). x ++ y) (ap (rows f) (sym (add-one i)))
    (drop-drop 8 (8 * i) out₀ ∙ ap (λ (k : ℕ). drop k out₀) q))

pub rows_all : (f : ℕ → List ℤ) (i : ℕ) (out out₀ : List ℤ) → out ≡ rows f i ++ drop (8 * i) out₀ → i ≤ 8 → 8 ≤ i → length out₀ ≡ 64 → out ≡ rows f 8
rows_all f i out out₀ e l k h =
    let q : i ≡ 8 = omega arith in
    e ∙ ap (λ (n : ℕ). rows f n ++ drop (8 * n) out₀) q
    ∙ ap (λ (y : List ℤ). rows f 8 ++ y) (drop_of_length-le out₀ {i = 64} (omega arith)) ∙ append-nil (rows f 8)

pub column_eight : (x : List ℤ) (k : ℕ) → length (column k x) ≡ 8
column_eight x k = refl

-- what a loop over the rows learns in a turn
pub ruleset row_steps = (rows_more, same_len_mid, column_eight, length_fdct8, small_column, small_row)

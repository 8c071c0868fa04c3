-- A run of stores: one more, five more, and the sums of one more column. What stood before the run and after it stays. Assumes nothing.
use mathlib.Core.Path.{◌≡◌, refl, ap, ◌∙◌}
use mathlib.Core.List.{List}
use Prim.Native.Nat.{ℕ, ◌+◌, ◌*◌, ◌/◌, ◌%◌, ◌≤◌, ◌<◌}
use native.Mathlib.Nat.{ne_of_lt, add-zero}
use native.Mathlib.Omega.{arith}
use borrow.Author.Count.{below_more, below_none}
use lib.Dec.{lit<}
use lib.IntN.{ℤ, pos}
use lib.ListN.{length, set, length-set}
use lib.Seq.{get_or-set_same, get_or-set_other}
use Rattle.window.specs.Inner.Parts.{parts_of, window_of, quant_of, nth}
use Rattle.window.specs.Inner.Columns.{at_z, column_to, column_at, Put}
use Rattle.window.specs.declared.FiveSums.{FiveSums}
use Rattle.window.proofs.Sums.Five.{nth_five}

pub put_none : (l : List ℤ) (from : ℕ) (g : ℕ → ℕ) → Put l l from 0 g
put_none l from g = record { there = below_none _; before = λ i m. refl; after = λ i m. refl }

pub put_more : (old l : List ℤ) (from n : ℕ) (g : ℕ → ℕ) (v : ℤ) → Put old l from n g → v ≡ pos (g n) → from + n < length l
    → Put old (set l (from + n) v) from (n + 1) g
put_more old l from n g v p e h =
    record {
      there = below_more (λ (i : ℕ). at_z (set l (from + n) v) (from + i) ≡ pos (g i)) n
          (λ i (m : i < n). get_or-set_other l (from + n) (from + i) v (pos 0) (ne_of_lt (omega arith)) ∙ p.there i m)
          (get_or-set_same l (from + n) v (pos 0) h ∙ e);
      before = λ i m. get_or-set_other l (from + n) i v (pos 0) (ne_of_lt (omega arith)) ∙ p.before i m;
      after = λ i m. get_or-set_other l (from + n) i v (pos 0) (λ q. absurd (omega arith)) ∙ p.after i (omega arith);
    }

pub put_next : (old l l' : List ℤ) (from n : ℕ) (g : ℕ → ℕ) (v : ℕ) → Put old l from n g → l' ≡ set l (from + n) (pos v) → v ≡ g n
    → from + n < length l → Put old l' from (n + 1) g
put_next old l l' from n g v p e f h = rw e (put_more old l from n g (pos v) p (ap pos f) h)

-- at any name of the place
put_at : (old l : List ℤ) (from n m at : ℕ) (g : ℕ → ℕ) (v : ℕ) → Put old l from n g → at ≡ from + n → m ≡ n + 1 → v ≡ g n → from + n < length l
    → Put old (set l at (pos v)) from m g
put_at old l from n m at g v p e f w h = rw (e, f) (put_more old l from n g (pos v) p (ap pos w) h)

put_five : (old l l' : List ℤ) (from n : ℕ) (g : ℕ → ℕ) (t : FiveSums) → Put old l from n g
    → l' ≡ set (set (set (set (set l (from + n) (pos t.mux)) (from + n + 1) (pos t.muy)) (from + n + 2) (pos t.x2))
    (from + n + 3) (pos t.xy)) (from + n + 4) (pos t.y2)
    → ((m : ℕ) → m < 5 → nth t m ≡ g (n + m)) → from + n + 5 ≤ length l → Put old l' from (n + 5) g
put_five old l l' from n g t p e w h =
    let l0 = set l (from + n) (pos t.mux) in
    let l1 = set l0 (from + n + 1) (pos t.muy) in
    let l2 = set l1 (from + n + 2) (pos t.x2) in
    let l3 = set l2 (from + n + 3) (pos t.xy) in
    let p0 = put_at old l from n (n + 1) (from + n) g t.mux p refl refl (rw add-zero at (w 0 (lit< tt))) (omega arith) in
    let p1 = put_at old l0 from (n + 1) (n + 2) (from + n + 1) g t.muy p0 (omega arith) (omega arith) (w 1 (lit< tt)) (simp length-set (omega arith)) in
    let p2 = put_at old l1 from (n + 2) (n + 3) (from + n + 2) g t.x2 p1 (omega arith) (omega arith) (w 2 (lit< tt)) (simp length-set (omega arith)) in
    let p3 = put_at old l2 from (n + 3) (n + 4) (from + n + 3) g t.xy p2 (omega arith) (omega arith) (w 3 (lit< tt)) (simp length-set (omega arith)) in
    rw e (put_at old l3 from (n + 4) (n + 5) (from + n + 4) g t.y2 p3 (omega arith) (omega arith) (w 4 (lit< tt)) (simp length-set (omega arith)))

-- the sums of column x, put after those of the columns before it
module _ (ker : List ℕ) (height : ℕ) (a b : ℕ → ℕ → ℕ) (y x : ℕ) where
  sum_there : (t : FiveSums) → t ≡ column_to ker height a b x y (length ker)
      → (m : ℕ) → m < 5 → nth t m ≡ column_at ker height a b y (5 * x + m)
  unfolding column_to parts_of
  sum_there t e m l =
      let u : (5 * x + m) % 5 ≡ m = omega arith in
      let v : (5 * x + m) / 5 ≡ x = omega arith in
      rw (e, u, v) (nth_five (λ (i : ℕ). window_of ker height (λ (r : ℕ). quant_of i (a r x) (b r x)) y) m l)

  pub put_column : (old l l' : List ℤ) (from : ℕ) (t : FiveSums) → Put old l from (5 * x) (column_at ker height a b y)
      → l' ≡ set (set (set (set (set l (from + 5 * x) (pos t.mux)) (from + 5 * x + 1) (pos t.muy)) (from + 5 * x + 2) (pos t.x2))
      (from + 5 * x + 3) (pos t.xy)) (from + 5 * x + 4) (pos t.y2)
      → t ≡ column_to ker height a b x y (length ker)
      → from + 5 * x + 5 ≤ length l → Put old l' from (5 * (x + 1)) (column_at ker height a b y)
  put_column old l l' from t p e f h =
      let n : 5 * (x + 1) ≡ 5 * x + 5 = omega arith in
      rw n (put_five old l l' from (5 * x) (column_at ker height a b y) t p e (sum_there t f) h)

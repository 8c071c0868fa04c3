-- Laws of `sum_to`. Assumes nothing.
use mathlib.Core.Path.{◌≡◌, refl, sym, ap, ◌∙◌}
use Prim.Native.Nat.{ℕ, zero, suc, ◌+◌, ◌-◌, ◌*◌, ◌≤◌, ◌<◌}
use native.Mathlib.Nat.{add-zero, add-suc, le_refl, mul-zero, mul-add}
use native.Mathlib.Numerals.{add-one}
use native.Mathlib.Omega.{arith}
use Rattle.plane.specs.Sums.{sum_to}

module _ (f : ℕ → ℕ) where
  pub sum_none : sum_to f 0 ≡ 0
  unfolding sum_to
  sum_none = refl

  -- one term more, at the code's i + 1
  pub sum_more : (i : ℕ) → sum_to f (i + 1) ≡ sum_to f i + f i
  unfolding sum_to
  sum_more i = rw add-one

  sum_flat : (a d : ℕ) → ((k : ℕ) → a ≤ k → k < a + d → f k ≡ 0) → sum_to f (a + d) ≡ sum_to f a
  unfolding sum_to
  sum_flat a zero h = rw add-zero
  sum_flat a (suc d) h = rw (add-suc, h (a + d) (omega arith) (omega arith), add-zero, sum_flat a d (λ k l m. h k l (omega arith)))

  -- the terms from a to b are 0
  pub sum_tail : (a b : ℕ) → a ≤ b → ((k : ℕ) → a ≤ k → k < b → f k ≡ 0) → sum_to f b ≡ sum_to f a
  sum_tail a b l h =
      let e : a + (b - a) ≡ b = omega arith in
      ap (sum_to f) (sym e) ∙ sum_flat a (b - a) (λ k m n. h k m (omega arith))

  -- the terms below n are 0
  pub sum_zero : (n : ℕ) → ((k : ℕ) → k < n → f k ≡ 0) → sum_to f n ≡ 0
  unfolding sum_to
  sum_zero n h = sum_tail 0 n (omega arith) (λ k l m. h k m)

  sum_grows : (a d : ℕ) → sum_to f a ≤ sum_to f (a + d)
  unfolding sum_to
  sum_grows a zero = rw add-zero (le_refl _)
  sum_grows a (suc d) = rw add-suc (omega (arith, sum_grows a d))

  -- a sum of more terms is no less
  pub sum_mono : (a b : ℕ) → a ≤ b → sum_to f a ≤ sum_to f b
  sum_mono a b l = let e : a + (b - a) ≡ b = omega arith in rw e at (sum_grows a (b - a))

  -- no term is above the sum
  pub sum_term : (n k : ℕ) → k < n → f k ≤ sum_to f n
  sum_term n k l = omega (arith, sum_more k, sum_mono (k + 1) n (omega arith))

  -- a factor that every term has
  pub sum_mul : (c n : ℕ) → sum_to (λ (k : ℕ). c * f k) n ≡ c * sum_to f n
  unfolding sum_to
  sum_mul c zero = rw mul-zero
  sum_mul c (suc n) = rw (mul-add, sum_mul c n)

  -- no term is above c
  pub sum_bound : (c n : ℕ) → ((k : ℕ) → k < n → f k ≤ c) → sum_to f n ≤ n * c
  unfolding sum_to
  sum_bound c zero h = omega arith
  sum_bound c (suc n) h = omega (arith, sum_bound c n (λ k l. h k (omega arith)), h n (omega arith))

module _ (f g : ℕ → ℕ) where
  -- term by term no greater
  pub sum_le : (n : ℕ) → ((k : ℕ) → k < n → f k ≤ g k) → sum_to f n ≤ sum_to g n
  unfolding sum_to
  sum_le zero h = le_refl 0
  sum_le (suc n) h = omega (arith, sum_le n (λ k l. h k (omega arith)), h n (omega arith))

  -- term by term the same
  pub sum_ext : (n : ℕ) → ((k : ℕ) → k < n → f k ≡ g k) → sum_to f n ≡ sum_to g n
  unfolding sum_to
  sum_ext zero h = refl
  sum_ext (suc n) h = omega (arith, sum_ext n (λ k l. h k (omega arith)), h n (omega arith))

  -- two sums as one
  sum_add : (n : ℕ) → sum_to (λ (k : ℕ). f k + g k) n ≡ sum_to f n + sum_to g n
  unfolding sum_to
  sum_add zero = refl
  sum_add (suc n) = omega (arith, sum_add n)

-- a double sum, its two counts exchanged
pub sum_swap : (f : ℕ → ℕ → ℕ) (m n : ℕ) → sum_to (λ (i : ℕ). sum_to (f i) n) m ≡ sum_to (λ (j : ℕ). sum_to (λ (i : ℕ). f i j) m) n
unfolding sum_to
sum_swap f zero n = sym (sum_zero _ n (λ k l. refl))
sum_swap f (suc m) n = rw (sum_swap f m n) (sym (sum_add _ (f m) n))

module _ (f : ℕ → ℕ) where
  -- a sum in two parts
  pub sum_split : (a b : ℕ) → sum_to f (a + b) ≡ sum_to f a + sum_to (λ (k : ℕ). f (a + k)) b
  unfolding sum_to
  sum_split a zero = rw (add-zero, add-zero)
  sum_split a (suc b) = rw add-suc (omega (arith, sum_split a b))

-- backwards
sum_back : (f : ℕ → ℕ) (n : ℕ) → sum_to f n ≡ sum_to (λ (k : ℕ). f (n - 1 - k)) n
unfolding sum_to
sum_back f zero = refl
sum_back f (suc n) =
    let g : ℕ → ℕ = λ (k : ℕ). f (suc n - 1 - k) in
    let last : suc n - 1 - 0 ≡ n = omega arith in
    let one : 1 + n ≡ suc n = omega arith in
    let rest : sum_to (λ (k : ℕ). g (1 + k)) n ≡ sum_to f n =
    sum_ext _ _ n (λ k l. let q : suc n - 1 - (1 + k) ≡ n - 1 - k = omega arith in ap f q) ∙ sym (sum_back f n) in
    let whole : sum_to g (suc n) ≡ sum_to g 1 + sum_to (λ (k : ℕ). g (1 + k)) n = rw one at (sum_split g 1 n) in
    let first : sum_to g 1 ≡ f n = omega (arith, sum_more g 0, ap f last) in
    omega (arith, rest, whole, first)

-- from both ends to the middle
pub sum_fold : (f : ℕ → ℕ) (o : ℕ) → sum_to f (2 * o + 1) ≡ f o + sum_to (λ (k : ℕ). f k + f (2 * o - k)) o
sum_fold f o =
    let whole : o + (o + 1) ≡ 2 * o + 1 = omega arith in
    let parts : sum_to f (2 * o + 1) ≡ sum_to f o + sum_to (λ (k : ℕ). f (o + k)) (o + 1) = rw whole at (sum_split f o (o + 1)) in
    let turned : o + 1 ≡ 1 + o = omega arith in
    let tail : sum_to (λ (k : ℕ). f (o + k)) (o + 1) ≡ sum_to (λ (k : ℕ). f (o + k)) 1 + sum_to (λ (k : ℕ). f (o + (1 + k))) o =
    rw turned (sum_split (λ (k : ℕ). f (o + k)) 1 o) in
    let none : o + 0 ≡ o = omega arith in
    let middle : sum_to (λ (k : ℕ). f (o + k)) 1 ≡ f o =
    omega (arith, sum_more (λ (k : ℕ). f (o + k)) 0, sum_none (λ (k : ℕ). f (o + k)), ap f none) in
    let back : sum_to (λ (k : ℕ). f (o + (1 + k))) o ≡ sum_to (λ (k : ℕ). f (2 * o - k)) o =
    sum_back (λ (k : ℕ). f (o + (1 + k))) o
    ∙ sum_ext _ _ o (λ k l. let q : o + (1 + (o - 1 - k)) ≡ 2 * o - k = omega arith in ap f q) in
    omega (arith, parts, tail, middle, back, sum_add f (λ (k : ℕ). f (2 * o - k)) o)

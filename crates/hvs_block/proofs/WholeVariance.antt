-- A variance by whole numbers: of N = 2 ^ e samples g, none above 2 ^ 12, with the sum S and the sum of squares Q, the steps of the definition give
-- exactly (N · Q - S²) / N. Assumes nothing.
use mathlib.Core.Path.{◌≡◌, sym, ap, ◌∙◌}
use mathlib.Core.Bool.{false}
use Prim.Native.Nat.{ℕ, zero, suc, ◌+◌, ◌-◌, ◌*◌, ◌≤◌, ◌<◌, ◌^◌}
use native.Mathlib.Nat.{suc-mul, mul_comm, mul_assoc, one-mul, mul-mul-mul_comm, add-mul, mul-add, mul-sub, mul-pos, mul-le-mul, mul-le-mul_right, le_of_mul-le-mul_left}
use native.Mathlib.Decide.{dec_le}
use native.Mathlib.Omega.{arith}
use lib.Dec.{lit<}
use lib.IntN.{pos}
use lib.Pow.{pow-add, pow_pos, pow_mono}
use lib.Ieee.{Float, fin, binary64, of_int}
use lib.Ieee.Scale.{round_same}
use Rattle.number.specs.Steps.{◌⊕◌, ◌⊖◌, ◌⊗◌, ◌⊘◌, double, fold_to}
use Rattle.plane.specs.Sums.{sum_to}
use Rattle.plane.proofs.Sums.{sum_mul, sum_bound, sum_ext}
use Rattle.hvs_block.specs.Inner.Levels.{squares}
use Rattle.number.specs.Literals.{zero_d}
use Rattle.number.proofs.Fractions.{frac, exact, double_is, zero_is, whole, add_at, over_at, difference_at}

-- ---- whole numbers

-- how far h lies from S
abbrev apart : ℕ → ℕ → ℕ
apart h S = (h - S) + (S - h)

above : (h t : ℕ) → t * t + 2 * (h * (h + t)) ≡ h * h + (h + t) * (h + t)
above h t = rw (mul-add h h t, add-mul h t (h + t), mul-add h h t, mul-add t h t) (omega (arith, mul_comm t h))

apart_square : (h S : ℕ) → apart h S * apart h S + 2 * (h * S) ≡ h * h + S * S
apart_square h S = go (dec_le h S)
  where
    go : Dec (h ≤ S) → apart h S * apart h S + 2 * (h * S) ≡ h * h + S * S
    go (yes l) =
        let d : apart h S ≡ S - h = omega arith in
        let e : S ≡ h + (S - h) = omega arith in
        let p = above h (S - h) in
        rw d (rw (← e) at p)
    go (no l) =
        let d : apart h S ≡ h - S = omega arith in
        let e : h ≡ S + (h - S) = omega arith in
        let p = above S (h - S) in
        rw d (omega (arith, rw (← e) at p, mul_comm h S))

module _ (h : ℕ → ℕ) (S : ℕ) where
  sum_apart : (n : ℕ)
      → sum_to (λ (k : ℕ). apart (h k) S * apart (h k) S) n + 2 * (sum_to h n * S) ≡ sum_to (λ (k : ℕ). h k * h k) n + n * (S * S)
  unfolding sum_to
  sum_apart zero = omega arith
  sum_apart (suc n) = rw (add-mul (sum_to h n) (h n) S, suc-mul n (S * S)) (omega (arith, sum_apart n, apart_square (h n) S))

-- N² times the sum of the squared distances from the mean, S / N
abbrev off : ℕ → (ℕ → ℕ) → ℕ → ℕ
off N g k = apart (N * g k) (sum_to g N)

module _ (N : ℕ) (g : ℕ → ℕ) (p : 0 < N) where
  -- N · (N · g)² in all
  all_squares : sum_to (λ (k : ℕ). N * g k * (N * g k)) N ≡ N * (N * squares g N)
  all_squares =
      sum_ext _ _ N (λ (k : ℕ) l. mul-mul-mul_comm N (g k) N (g k))
      ∙ sum_mul (λ (k : ℕ). g k * g k) (N * N) N
      ∙ mul_assoc N N (squares g N)

  told : sum_to (λ (k : ℕ). off N g k * off N g k) N + N * (sum_to g N * sum_to g N) ≡ N * (N * squares g N)
  told =
      let S = sum_to g N in
      let sums = sum_apart (λ (k : ℕ). N * g k) S N in
      let m : sum_to (λ (k : ℕ). N * g k) N * S ≡ N * (S * S) = rw (sum_mul g N N) (mul_assoc N S S) in
      omega (arith, sums, m, all_squares)

  -- Cauchy and Schwarz, so that the code can subtract
  pub square_le : sum_to g N * sum_to g N ≤ N * squares g N
  square_le = le_of_mul-le-mul_left {k = N} (omega (arith, told)) p

  off_sum : sum_to (λ (k : ℕ). off N g k * off N g k) N ≡ N * (N * squares g N - sum_to g N * sum_to g N)
  off_sum = rw (mul-sub N (N * squares g N) (sum_to g N * sum_to g N)) (omega (arith, told))

-- ---- doubles

-- the steps of the definition
abbrev pub summed : (ℕ → Float) → ℕ → Float
summed f n = fold_to (λ (s : Float) (k : ℕ). s ⊕ f k) zero_d n

abbrev pub squared_from : Float → Float → Float
squared_from m v = (v ⊖ m) ⊗ (v ⊖ m)

module _ (e : ℕ) (l : e ≤ 6) (g : ℕ → ℕ) (small : (k : ℕ) → g k ≤ 2 ^ 12) where
  few : 2 ^ e ≤ 64
  few = pow_mono {i = e} {j = 6} l

  sum_small : (n : ℕ) → n ≤ 64 → sum_to g n ≤ 2 ^ 18
  sum_small n h = omega (arith, sum_bound g (2 ^ 12) n (λ (k : ℕ) i. small k))

  sum_is : (n : ℕ) → n ≤ 64 → summed (λ (k : ℕ). double (g k)) n ≡ double (sum_to g n)
  unfolding fold_to sum_to of_int
  sum_is zero h = zero_is 1 (lit< tt)
  sum_is (suc n) h =
      let b = sum_small n (omega arith) in
      let a : sum_to g n < 2 ^ 53 = omega arith in
      let c : g n < 2 ^ 53 = omega (arith, small n) in
      rw (sum_is n (omega arith)) (add_at _ _ (sum_to g n) (g n) 1 (whole (sum_to g n) a) (whole (g n) c) (lit< tt))

  mean_is : summed (λ (k : ℕ). double (g k)) (2 ^ e) ⊘ fin false 1 (pos e) ≡ frac false (sum_to g (2 ^ e)) (2 ^ e)
  mean_is =
      let a : sum_to g (2 ^ e) < 2 ^ 53 = omega (arith, sum_small (2 ^ e) few) in
      rw (sum_is (2 ^ e) few) (over_at _ (sum_to g (2 ^ e)) 1 e (whole (sum_to g (2 ^ e)) a) (lit< tt) ∙ ap (frac false (sum_to g (2 ^ e))) (one-mul (2 ^ e)))

  -- ---- the squared distances from the mean
  off_small : (k : ℕ) → off (2 ^ e) g k ≤ 2 ^ 18
  off_small k = omega (arith, mul-le-mul few (small k), sum_small (2 ^ e) few)

  off_squares : (n : ℕ) → n ≤ 64 → sum_to (λ (k : ℕ). off (2 ^ e) g k * off (2 ^ e) g k) n < 2 ^ 52
  off_squares n h =
      omega (arith, sum_bound (λ (k : ℕ). off (2 ^ e) g k * off (2 ^ e) g k) (2 ^ 36) n (λ (k : ℕ) i. mul-le-mul (off_small k) (off_small k)))

  term_is : (k : ℕ) → squared_from (frac false (sum_to g (2 ^ e)) (2 ^ e)) (double (g k)) ≡ frac false (off (2 ^ e) g k * off (2 ^ e) g k) (2 ^ (e + e))
  term_is k =
      let a : 2 ^ e * g k < 2 ^ 53 = omega (arith, mul-le-mul few (small k)) in
      let b : sum_to g (2 ^ e) < 2 ^ 53 = omega (arith, sum_small (2 ^ e) few) in
      let m : e ≤ 12 = omega arith in
      rw (double_is e (g k), pow-add 2 e e)
      (difference_at _ _ e (2 ^ e * g k) (sum_to g (2 ^ e)) (exact false e (2 ^ e * g k) m a) (exact false e (sum_to g (2 ^ e)) m b) m a b)

  squares_is : (n : ℕ) → n ≤ 64 → summed (λ (k : ℕ). squared_from (frac false (sum_to g (2 ^ e)) (2 ^ e)) (double (g k))) n
      ≡ frac false (sum_to (λ (k : ℕ). off (2 ^ e) g k * off (2 ^ e) g k) n) (2 ^ (e + e))
  unfolding fold_to sum_to
  squares_is zero h = zero_is (2 ^ (e + e)) (pow_pos (e + e))
  squares_is (suc n) h =
      let t = sum_to (λ (k : ℕ). off (2 ^ e) g k * off (2 ^ e) g k) n in
      let a : t < 2 ^ 53 = omega (arith, off_squares n (omega arith)) in
      let b : off (2 ^ e) g n * off (2 ^ e) g n < 2 ^ 53 = omega (arith, mul-le-mul (off_small n) (off_small n)) in
      let m : e + e ≤ 12 = omega arith in
      rw (squares_is n (omega arith), term_is n)
      (add_at _ _ t (off (2 ^ e) g n * off (2 ^ e) g n) (2 ^ (e + e)) (exact false (e + e) t m a) (exact false (e + e) (off (2 ^ e) g n * off (2 ^ e) g n) m b)
      (pow_pos (e + e)))

  -- N · Q - S²
  abbrev pub varied : ℕ
  varied = 2 ^ e * squares g (2 ^ e) - sum_to g (2 ^ e) * sum_to g (2 ^ e)

  varied_small : varied < 2 ^ 52
  varied_small =
      let o = off_squares (2 ^ e) few in
      let v = off_sum (2 ^ e) g (pow_pos e) in
      let one : 1 * varied ≤ 2 ^ e * varied = mul-le-mul_right varied (pow_pos e) in
      omega (arith, o, v, one)

  pub variance_is : summed (λ (k : ℕ). squared_from (summed (λ (i : ℕ). double (g i)) (2 ^ e) ⊘ fin false 1 (pos e)) (double (g k))) (2 ^ e)
      ≡ double varied ⊘ fin false 1 (pos e)
  variance_is =
      let a : varied < 2 ^ 53 = omega (arith, varied_small) in
      rw (mean_is, squares_is (2 ^ e) few, off_sum (2 ^ e) g (pow_pos e))
      (round_same binary64 false (2 ^ e * varied) (2 ^ (e + e)) varied (1 * 2 ^ e) (pow_pos (e + e)) (mul-pos (lit< tt) (pow_pos e))
      (rw (one-mul (2 ^ e), pow-add 2 e e) (ap (λ (z : ℕ). z * 2 ^ e) (mul_comm (2 ^ e) varied) ∙ mul_assoc varied (2 ^ e) (2 ^ e)))
      ∙ sym (over_at (double varied) varied 1 e (whole varied a) (lit< tt)))

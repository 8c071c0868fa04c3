-- Cauchy and Schwarz, of six whole numbers: the moments w, x, y, xx, xy, yy of two families of values under one weight. What they
-- need of these numbers is `Gram`, which holds of one weighted value and is kept by sums. Assumes nothing.
use mathlib.Core.Path.{◌≡◌, ap}
use Prim.Native.Nat.{ℕ, zero, suc, ◌+◌, ◌-◌, ◌*◌, ◌≤◌, ◌<◌}
use native.Mathlib.Nat.{add_assoc, add_comm, add_left_comm, mul_assoc, mul_comm, mul_left_comm, mul-add, add-mul, mul-zero, zero-mul, add-zero, zero-add}
use native.Mathlib.Nat.{one-mul, mul-suc, mul-sub, mul-le-mul_left, le_of_mul-le-mul_left}
use native.Mathlib.Decide.{dec_le}
use native.Mathlib.Omega.{arith}
use borrow.Author.Tests.{lt-ltb, le-ltb}
use lib.Dec.{le→leb}
use lib.IntN.{pos, negsuc, ◌-ℤ◌, ◌*ℤ◌}
use lib.Signed.{◌≤ℤ◌, le_z_yes}
use Rattle.plane.specs.Sums.{sum_to}

-- both sides of an equation of polynomials, as sorted sums of sorted products
ruleset sorted = (mul-add, add-mul, mul_assoc, mul_comm, mul_left_comm, add_assoc, add_comm, add_left_comm, mul-zero, zero-mul, add-zero, zero-add)

-- 2mn ≤ m² + n²
twice_le : (m n : ℕ) → m * n + m * n ≤ m * m + n * n
twice_le m n = go (dec_le m n)
  where
    sides : (k d : ℕ) → k * (k + d) + k * (k + d) + d * d ≡ k * k + (k + d) * (k + d)
    sides k d = simp sorted

    far : (k d : ℕ) → k * (k + d) + k * (k + d) ≤ k * k + (k + d) * (k + d)
    far k d = omega (arith, sides k d)

    go : Dec (m ≤ n) → m * n + m * n ≤ m * m + n * n
    go (yes l) = let e : m + (n - m) ≡ n = omega arith in rw e at (far m (n - m))
    go (no l) = let e : n + (m - n) ≡ m = omega arith in omega (arith, mul_comm m n, rw e at (far n (m - n)))

weighed_twice : (c m n : ℕ) → c * (m * n) + c * (m * n) ≤ c * (m * m) + c * (n * n)
weighed_twice c m n = rw (← mul-add c (m * n) (m * n), ← mul-add c (m * m) (n * n)) (mul-le-mul_left c (twice_le m n))

-- ---- the form

-- (p, q, r) by (p', q', r') under the matrix of the moments: for one value of weight 1, (p + q s + r t)(p' + q' s + r' t)
unfoldable pub form : (w x y xx xy yy p q r p' q' r' : ℕ) → ℕ
form w x y xx xy yy p q r p' q' r' =
    p * p' * w + (p * q' + q * p') * x + (p * r' + r * p') * y + q * q' * xx + (q * r' + r * q') * xy + r * r' * yy

-- The form of a difference by itself is not negative. A difference of two triples of whole numbers is any triple of integers, so this
-- says that the matrix is positive semidefinite.
pub record Gram (w x y xx xy yy : ℕ) : Type 0 where
  pub positive : (p q r p' q' r' : ℕ)
      → form w x y xx xy yy p q r p' q' r' + form w x y xx xy yy p q r p' q' r' ≤ form w x y xx xy yy p q r p q r + form w x y xx xy yy p' q' r' p' q' r'

form_point : (c s t p q r p' q' r' : ℕ)
    → form c (c * s) (c * t) (c * (s * s)) (c * (s * t)) (c * (t * t)) p q r p' q' r' ≡ c * ((p + q * s + r * t) * (p' + q' * s + r' * t))
unfolding form
form_point c s t p q r p' q' r' = simp sorted

form_add : (w x y xx xy yy w' x' y' xx' xy' yy' p q r p' q' r' : ℕ)
    → form (w + w') (x + x') (y + y') (xx + xx') (xy + xy') (yy + yy') p q r p' q' r'
    ≡ form w x y xx xy yy p q r p' q' r' + form w' x' y' xx' xy' yy' p q r p' q' r'
unfolding form
form_add w x y xx xy yy w' x' y' xx' xy' yy' p q r p' q' r' = simp sorted

-- one pair of values s and t, of weight c
pub gram_point : (c s t : ℕ) → Gram c (c * s) (c * t) (c * (s * s)) (c * (s * t)) (c * (t * t))
gram_point c s t =
    record {
      positive = λ p q r p' q' r'.
          simp (form_point c s t) (weighed_twice c (p + q * s + r * t) (p' + q' * s + r' * t));
    }

-- no value at all
pub gram_none : Gram 0 0 0 0 0 0
gram_none = gram_point 0 0 0

pub gram_sum : (w x y xx xy yy : ℕ → ℕ) → ((k : ℕ) → Gram (w k) (x k) (y k) (xx k) (xy k) (yy k))
    → (n : ℕ) → Gram (sum_to w n) (sum_to x n) (sum_to y n) (sum_to xx n) (sum_to xy n) (sum_to yy n)
unfolding sum_to
gram_sum w x y xx xy yy h zero = gram_none
gram_sum w x y xx xy yy h (suc n) =
    record {
      positive = λ p q r p' q' r'.
          simp form_add (omega (arith, (h n).positive p q r p' q' r', (gram_sum w x y xx xy yy h n).positive p q r p' q' r'));
    }

-- ---- differences of whole numbers, as integers

difference_pos : {m n : ℕ} → n ≤ m → pos m -ℤ pos n ≡ pos (m - n)
difference_pos {m} {n = zero} l = ap pos (omega arith)
difference_pos {m} {n = suc n} l = rw (le-ltb m (suc n) l)

difference_neg : {m n : ℕ} → m < n → pos m -ℤ pos n ≡ negsuc (n - suc m)
difference_neg {m} {n = zero} l = absurd (omega arith)
difference_neg {m} {n = suc n} l = rw (lt-ltb m (suc n) l)

difference_square : (m n : ℕ) → (pos m -ℤ pos n) *ℤ (pos m -ℤ pos n) ≡ pos (((m - n) + (n - m)) * ((m - n) + (n - m)))
difference_square m n = go (dec_le n m)
  where
    go : Dec (n ≤ m) → (pos m -ℤ pos n) *ℤ (pos m -ℤ pos n) ≡ pos (((m - n) + (n - m)) * ((m - n) + (n - m)))
    go (yes l) = let e : (m - n) + (n - m) ≡ m - n = omega arith in rw (difference_pos l, e)
    go (no l) =
        let h : m < n = omega arith in
        let e : (m - n) + (n - m) ≡ suc (n - suc m) = omega arith in rw (difference_neg h, e)

-- ---- from the form to the inequalities

-- what holds for every q and r holds at f and d, and where f is 0 at 1 and e + 1
square_le : (d e f : ℕ) → ((q r : ℕ) → q * r * d + q * r * d ≤ q * q * e + r * r * f) → d * d ≤ e * f
square_le zero e zero h = omega arith
square_le (suc d) e zero h = let k = e + 1 in absurd (omega (arith, simp (one-mul, mul-zero, mul-suc) at (h 1 k)))
square_le d e (suc f) h =
    let k = suc f in
    let i : k * d * d ≡ k * (d * d) = mul_assoc k d d in
    let j : k * k * e ≡ k * (e * k) = simp sorted in
    le_of_mul-le-mul_left {k = k} (omega (arith, h k d, mul_comm (d * d) k)) (omega arith)

-- a difference either way round, and one whose order is known, as terms of a sum
spread : (k m n : ℕ) → k * ((m - n) + (n - m)) ≡ (k * m - k * n) + (k * n - k * m)
spread k m n = rw (mul-add, mul-sub k m n, mul-sub k n m)

less : (k : ℕ) {m n : ℕ} → n ≤ m → k * (m - n) + k * n ≡ k * m
less k {m} {n} l = omega (arith, mul-sub k m n, mul-le-mul_left k l)

-- a factor that each side has
fewer : (w l m n : ℕ) → 0 < w → w * l + w * l ≤ w * m + w * n → l + l ≤ m + n
fewer w l m n h g = le_of_mul-le-mul_left {k = w} (rw (mul-add w l l, mul-add w m n) g) h

module _ (w x y xx xy yy : ℕ) (some : 0 < w) (gram : Gram w x y xx xy yy) where
  module _ (q r : ℕ) where
    -- the terms of (q (w s - x) - r (w t - y))² and of (q (w s - x) + r (w t - y))², summed over the weighted values s and t and divided by w
    abbrev squares : ℕ
    squares = q * q * (w * xx) + r * r * (w * yy)

    abbrev means : ℕ
    means = q * q * (x * x) + r * r * (y * y)

    abbrev mixed : ℕ
    mixed = q * r * (w * xy) + q * r * (w * xy)

    abbrev product : ℕ
    product = q * r * (x * y) + q * r * (x * y)

    -- the first is not negative
    opposed : means + mixed ≤ squares + product
    unfolding form
    opposed =
        let across : form w x y xx xy yy (r * y) (q * w) 0 (q * x) 0 (r * w) ≡ w * (means + q * r * (w * xy) + q * r * (x * y)) = simp sorted in
        let first : form w x y xx xy yy (r * y) (q * w) 0 (r * y) (q * w) 0 ≡ w * (q * q * (w * xx) + r * r * (y * y) + product) = simp sorted in
        let second : form w x y xx xy yy (q * x) 0 (r * w) (q * x) 0 (r * w) ≡ w * (q * q * (x * x) + r * r * (w * yy) + product) = simp sorted in
        omega (arith, fewer w _ _ _ some (rw (across, first, second) at (gram.positive (r * y) (q * w) 0 (q * x) 0 (r * w))))

    -- nor is the second
    alike : means + product ≤ squares + mixed
    unfolding form
    alike =
        let across : form w x y xx xy yy 0 (q * w) (r * w) (q * x + r * y) 0 0 ≡ w * (means + product) = simp sorted in
        let first : form w x y xx xy yy 0 (q * w) (r * w) 0 (q * w) (r * w) ≡ w * (squares + mixed) = simp sorted in
        let second : form w x y xx xy yy (q * x + r * y) 0 0 (q * x + r * y) 0 0 ≡ w * (means + product) = simp sorted in
        omega (arith, fewer w _ _ _ some (rw (across, first, second) at (gram.positive 0 (q * w) (r * w) (q * x + r * y) 0 0)))

  pub first_le : x * x ≤ w * xx
  first_le = omega (arith, alike 1 0)

  pub second_le : y * y ≤ w * yy
  second_le = omega (arith, alike 0 1)

  -- |w xy - x y|² ≤ (w xx - x²)(w yy - y²)
  both_le : let d = (w * xy - x * y) + (x * y - w * xy) in d * d ≤ (w * xx - x * x) * (w * yy - y * y)
  both_le = square_le _ _ _ (λ q r. omega (arith, opposed q r, alike q r, spread (q * r) (w * xy) (x * y), less (q * q) first_le, less (r * r) second_le))

  -- the same over the integers, as it is read: (w xy - x y)² ≤ (w xx - x²)(w yy - y²)
  pub signed_le : ((pos (w * xy) -ℤ pos (x * y)) *ℤ (pos (w * xy) -ℤ pos (x * y))) ≤ℤ ((pos (w * xx) -ℤ pos (x * x)) *ℤ (pos (w * yy) -ℤ pos (y * y)))
  signed_le =
      rw (difference_square (w * xy) (x * y), difference_pos first_le, difference_pos second_le) (le_z_yes (le→leb _ _ both_le))

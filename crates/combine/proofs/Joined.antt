-- The errors of the steps of an average, joined. All are whole numbers: units on one side of zero, or these times something. What a step gives
-- is at most what it is given and a surplus, or at least that but for a lack; these add up. Counted in 2^57ths, of which a step's 2^53rd part is 16,
-- the sum's three steps err by less than 49 upwards and 50 downwards, the weight's two by less than 33 and the quotient by 16: in all by less than 128, a
-- 2^50th. Assumes nothing.
use mathlib.Core.Path.{◌≡◌, ap}
use Prim.Native.Nat.{ℕ, ◌+◌, ◌-◌, ◌*◌, ◌^◌, ◌≤◌, ◌<◌}
use native.Mathlib.Nat.{mul-le-mul_left, mul-le-mul_right, le_of_mul-le-mul_right}
use native.Mathlib.Decide.{dec_le}
use native.Mathlib.Omega.{arith}
use Rattle.number.proofs.Rounding.{Most, Least}

-- ---- s over x, where 2 ^ 53 times it is at most r and 2 ^ 52 times t. m is 2 ^ 57, which adding up need not know

abbrev pub m : ℕ
m = 2 ^ 57

covers : (u v : ℕ) → u ≤ v + (u - v)
covers u v = omega arith

module _ (s x r t : ℕ) (h : 2 ^ 53 * s ≤ 2 ^ 53 * x + (r + 2 ^ 52 * t)) where
  small : 2 * (m * (s - x)) ≤ 32 * r + m * t
  small = omega (arith, h)

  few : 64 * (s - x) ≤ r + 64 * t
  few = omega (arith, h)

-- ---- the sum: a is p × (u + v), b that with u + v rounded, d is q times the product, y and e are q times y and the sum

module _ (m a b d y e p q f g h : ℕ) where
  surplus : b ≤ a + f → d ≤ b + g → e ≤ y + d + h → 2 * (m * f) ≤ 32 * a + m * p → 2 * (m * g) ≤ 32 * b + m * q → 2 * (m * h) ≤ 32 * (y + d) + m * q
      → 64 * f ≤ a + 64 * p → 64 * g ≤ b + 64 * q → m * e ≤ (m + 49) * (y + a) + (m + 64) * (q + 2 * p)
  surplus i j k u v w r s = omega (arith, mul-le-mul_left m i, mul-le-mul_left m j, mul-le-mul_left m k)

  lack : a ≤ b + f → b ≤ d + g → y + d ≤ e + h → 2 * (m * f) ≤ 32 * a + m * p → 2 * (m * g) ≤ 32 * b + m * q → 2 * (m * h) ≤ 32 * (y + d) + m * q
      → 64 * f ≤ a + 64 * p → 64 * g ≤ b + 64 * q → 64 * h ≤ y + d + 64 * q → m * (y + a) ≤ (m + 50) * e + (m + 256) * (q + 2 * p)
  lack i j k u v w r s t = omega (arith, mul-le-mul_left m i, mul-le-mul_left m j, mul-le-mul_left m k)

module _ (a b d y e p q : ℕ) where
  pub sum_most : Most b a p → Most d b q → Most e (y + d) q
      → m * e ≤ (m + 49) * (y + a) + (m + 64) * (q + 2 * p)
  sum_most f g h =
      surplus m a b d y e p q (b - a) (d - b) (e - (y + d)) (covers b a) (covers d b) (covers e (y + d))
      (small b a a p f) (small d b b q g) (small e (y + d) (y + d) q h) (few b a a p f) (few d b b q g)

  pub sum_least : Least b a p → Least d b q → Least e (y + d) q
      → m * (y + a) ≤ (m + 50) * e + (m + 256) * (q + 2 * p)
  sum_least f g h =
      lack m a b d y e p q (a - b) (b - d) (y + d - e) (covers a b) (covers b d) (covers (y + d) e)
      (small a b a p f) (small b d b q g) (small (y + d) e (y + d) q h) (few a b a p f) (few b d b q g) (few (y + d) e (y + d) q h)

-- a step's bound times p, and one of a sum times q
module _ (p r x : ℕ) where
  pub spread_most : Most r x 1 → Most (p * r) (p * x) p
  spread_most h = omega (arith, mul-le-mul_left p h)

  pub spread_least : Least r x 1 → Least (p * r) (p * x) p
  spread_least h = omega (arith, mul-le-mul_left p h)

module _ (q r x y : ℕ) where
  pub joined_most : Most r (x + y) 1 → Most (q * r) (q * x + q * y) q
  joined_most h = omega (arith, mul-le-mul_left q h)

  pub joined_least : Least r (x + y) 1 → Least (q * r) (q * x + q * y) q
  joined_least h = omega (arith, mul-le-mul_left q h)

-- ---- the quotient: a is the rounded weight and b the exact one, on one denominator; s is the sum, n the exact one, x the score times the exact
-- weight d. All are taken times a, but for s times b

module _ (m sa sb na da xa f g h : ℕ) where
  surplus_over : xa ≤ sb + h → sb ≤ sa + g → sa ≤ na + f → 2 * (m * h) ≤ 32 * sb + m * da → m * g ≤ 33 * sa → m * f ≤ 49 * na + (m + 64) * da
      → 64 * f ≤ na + 65 * da → 64 * g ≤ sa → 2 ^ 10 ≤ m → m * xa ≤ (m + 128) * na + 2 * (m * da)
  surplus_over i j k u v w r s l = omega (arith, mul-le-mul_left m i, mul-le-mul_left m j, mul-le-mul_left m k, mul-le-mul_right da l)

  lack_over : sb ≤ xa + h → sa ≤ sb + g → na ≤ sa + f → 2 * (m * h) ≤ 32 * sb + m * da → m * g ≤ 33 * sb → m * f ≤ 50 * sa + (m + 256) * da
      → 64 * h ≤ sb + 64 * da → 64 * g ≤ sb → 2 ^ 10 ≤ m → xa ≤ na → m * na ≤ m * xa + 128 * na + 2 * (m * da)
  lack_over i j k u v w r s l n = omega (arith, mul-le-mul_left m i, mul-le-mul_left m j, mul-le-mul_left m k, mul-le-mul_right da l)

module _ (u v : ℕ) (h : m * u ≤ (m + 33) * v) where
  weight_small : m * (u - v) ≤ 33 * v
  weight_small = omega (arith, h)

  weight_few : 64 * (u - v) ≤ v
  weight_few = omega (arith, h)

module _ (u v w : ℕ) where
  sum_small : m * u ≤ (m + 49) * v + (m + 64) * w → m * (u - v) ≤ 49 * v + (m + 64) * w
  sum_small h = omega (arith, h)

  sum_few : m * u ≤ (m + 49) * v + (m + 64) * w → 64 * (u - v) ≤ v + 65 * w
  sum_few h = omega (arith, h)

  sum_short : m * v ≤ (m + 50) * u + (m + 256) * w → m * (v - u) ≤ 50 * u + (m + 256) * w
  sum_short h = omega (arith, h)

out : (a x n d : ℕ) → m * (a * x) ≤ (m + 128) * (a * n) + 2 * (m * (a * d)) → 2 ^ 50 * x * a ≤ ((2 ^ 50 + 1) * n + 2 ^ 51 * d) * a
out a x n d h = omega (arith, h)

module _ (a b s n d x : ℕ) (A : 0 < a) where
  pub quotient_most : m * b ≤ (m + 33) * a → Most (a * x) (b * s) (a * d) → m * s ≤ (m + 49) * n + (m + 64) * d
      → 2 ^ 50 * x ≤ (2 ^ 50 + 1) * n + 2 ^ 51 * d
  quotient_most w h t =
      let g : m * (b * s) ≤ (m + 33) * (a * s) = omega (arith, mul-le-mul_right s w) in
      let f : m * (a * s) ≤ (m + 49) * (a * n) + (m + 64) * (a * d) = omega (arith, mul-le-mul_left a t) in
      let k : m * (a * x) ≤ (m + 128) * (a * n) + 2 * (m * (a * d)) =
      surplus_over m (a * s) (b * s) (a * n) (a * d) (a * x) (a * s - a * n) (b * s - a * s) (a * x - b * s) (covers (a * x) (b * s)) (covers (b * s) (a * s)) (covers (a * s) (a * n))
      (small (a * x) (b * s) (b * s) (a * d) h) (weight_small (b * s) (a * s) g) (sum_small (a * s) (a * n) (a * d) f)
      (sum_few (a * s) (a * n) (a * d) f) (weight_few (b * s) (a * s) g) (omega arith) in
      le_of_mul-le-mul_right {m = 2 ^ 50 * x} {n = (2 ^ 50 + 1) * n + 2 ^ 51 * d} {k = a} (out a x n d k) A

  pub quotient_least : m * a ≤ (m + 33) * b → Least (a * x) (b * s) (a * d) → m * n ≤ (m + 50) * s + (m + 256) * d
      → 2 ^ 50 * n ≤ 2 ^ 50 * x + (n + 2 ^ 51 * d)
  quotient_least w h t = go (dec_le x n)
    where
      g : m * (a * s) ≤ (m + 33) * (b * s)
      g = omega (arith, mul-le-mul_right s w)

      f : m * (a * n) ≤ (m + 50) * (a * s) + (m + 256) * (a * d)
      f = omega (arith, mul-le-mul_left a t)

      go : Dec (x ≤ n) → 2 ^ 50 * n ≤ 2 ^ 50 * x + (n + 2 ^ 51 * d)
      go (no l) = omega (arith, l)
      go (yes l) =
          let k : m * (a * n) ≤ m * (a * x) + 128 * (a * n) + 2 * (m * (a * d)) =
          lack_over m (a * s) (b * s) (a * n) (a * d) (a * x) (a * n - a * s) (a * s - b * s) (b * s - a * x) (covers (b * s) (a * x)) (covers (a * s) (b * s)) (covers (a * n) (a * s))
          (small (b * s) (a * x) (b * s) (a * d) h) (weight_small (a * s) (b * s) g) (sum_short (a * s) (a * n) (a * d) f)
          (few (b * s) (a * x) (b * s) (a * d) h) (weight_few (a * s) (b * s) g) (omega arith) (mul-le-mul_left a l) in
          le_of_mul-le-mul_right {m = 2 ^ 50 * n} {n = 2 ^ 50 * x + (n + 2 ^ 51 * d)} {k = a} (omega (arith, k)) A

-- both sides of a quotient times what is common
module _ (q n z s r d : ℕ) where
  pub widened_most : Most (n * r) (z * s) n → Most (q * n * (d * r)) (d * z * (q * s)) (q * n * d)
  widened_most h = omega (arith, mul-le-mul_left (q * d) h)

  pub widened_least : Least (n * r) (z * s) n → Least (q * n * (d * r)) (d * z * (q * s)) (q * n * d)
  widened_least h = omega (arith, mul-le-mul_left (q * d) h)

-- ---- the weight, in units: l is 1, c is c, g is 2c and w is 1 + 2c

module _ (m l c g w e f : ℕ) where
  weight_surplus : g ≤ 2 * c + e → w ≤ l + g + f → 2 * (m * e) ≤ 32 * (2 * c) + m * 1 → 2 * (m * f) ≤ 32 * (l + g) + m * 1 → 64 * e ≤ 2 * c + 64 * 1 → 64 ≤ l → m ≤ l
      → m * w ≤ (m + 33) * (l + 2 * c)
  weight_surplus i j u v s k n = omega (arith, mul-le-mul_left m i, mul-le-mul_left m j)

  weight_lack : 2 * c ≤ g + e → l + g ≤ w + f → 2 * (m * e) ≤ 32 * (2 * c) + m * 1 → 2 * (m * f) ≤ 32 * (l + g) + m * 1 → 64 * e ≤ 2 * c + 64 * 1 → 64 * f ≤ l + g + 64 * 1 → 64 ≤ l → m ≤ l
      → m * (l + 2 * c) ≤ (m + 33) * w
  weight_lack i j u v s t k n = omega (arith, mul-le-mul_left m i, mul-le-mul_left m j)

module _ (l c g w : ℕ) (large : 2 ^ 60 ≤ l) where
  pub weight_most : Most g (2 * c) 1 → Most w (l + g) 1 → m * w ≤ (m + 33) * (l + 2 * c)
  weight_most i j =
      weight_surplus m l c g w (g - 2 * c) (w - (l + g)) (covers g (2 * c)) (covers w (l + g)) (small g (2 * c) (2 * c) 1 i) (small w (l + g) (l + g) 1 j) (few g (2 * c) (2 * c) 1 i)
      (omega (arith, large)) (omega (arith, large))

  pub weight_least : Least g (2 * c) 1 → Least w (l + g) 1 → m * (l + 2 * c) ≤ (m + 33) * w
  weight_least i j =
      weight_lack m l c g w (2 * c - g) (l + g - w) (covers (2 * c) g) (covers (l + g) w) (small (2 * c) g (2 * c) 1 i) (small (l + g) w (l + g) 1 j) (few (2 * c) g (2 * c) 1 i) (few (l + g) w (l + g) 1 j)
      (omega (arith, large)) (omega (arith, large))

-- as fractions: p / q is c and n / z the weight
module _ (l c w p q n z : ℕ) (L : 0 < l) (is_c : c * q ≡ p * l) (is_w : w * z ≡ n * l) where
  pub fraction_most : m * w ≤ (m + 33) * (l + 2 * c) → m * (q * n) ≤ (m + 33) * ((q + 2 * p) * z)
  fraction_most h =
      le_of_mul-le-mul_right {m = m * (q * n)} {n = (m + 33) * ((q + 2 * p) * z)} {k = l}
      (omega (arith, ap (λ (t : ℕ). t * z) is_c, ap (λ (t : ℕ). t * q) is_w, mul-le-mul_right (q * z) h)) L

  pub fraction_least : m * (l + 2 * c) ≤ (m + 33) * w → m * ((q + 2 * p) * z) ≤ (m + 33) * (q * n)
  fraction_least h =
      le_of_mul-le-mul_right {m = m * ((q + 2 * p) * z)} {n = (m + 33) * (q * n)} {k = l}
      (omega (arith, ap (λ (t : ℕ). t * z) is_c, ap (λ (t : ℕ). t * q) is_w, mul-le-mul_right (q * z) h)) L

-- ---- between the least and the largest: h of all three

module _ (q p y u v h : ℕ) where
  pub total_most : y ≤ h → u ≤ h → v ≤ h → q * y + p * (u + v) ≤ (q + 2 * p) * h
  total_most a b c = omega (arith, mul-le-mul_left q a, mul-le-mul_left p b, mul-le-mul_left p c)

  pub total_least : h ≤ y → h ≤ u → h ≤ v → (q + 2 * p) * h ≤ q * y + p * (u + v)
  total_least a b c = omega (arith, mul-le-mul_left q a, mul-le-mul_left p b, mul-le-mul_left p c)

module _ (d r n h : ℕ) (D : 0 < d) where
  pub out_most : 2 ^ 50 * (d * r) ≤ (2 ^ 50 + 1) * n + 2 ^ 51 * d → n ≤ d * h → 2 ^ 50 * r ≤ (2 ^ 50 + 1) * h + 2 ^ 51
  out_most k l = le_of_mul-le-mul_right {m = 2 ^ 50 * r} {n = (2 ^ 50 + 1) * h + 2 ^ 51} {k = d} (omega (arith, k, l)) D

  pub out_least : 2 ^ 50 * n ≤ 2 ^ 50 * (d * r) + (n + 2 ^ 51 * d) → d * h ≤ n → 2 ^ 50 * h ≤ 2 ^ 50 * r + (h + 2 ^ 51)
  out_least k l = le_of_mul-le-mul_right {m = 2 ^ 50 * h} {n = 2 ^ 50 * r + (h + 2 ^ 51)} {k = d} (omega (arith, k, l)) D

-- Doubles that are whole numbers over a power of two: small enough, they are exact, and so are their sums, differences and squares.
-- Assumes nothing.
use Rattle.std.proofs.Common.{◌≡◌, ℕ, ◌+◌, ◌-◌, ◌*◌, ◌^◌, ◌<◌, ◌≤◌, Bool, true, false, ltb, pos, sym, refl, ap, ◌∙◌, ap₂, lt_of_lt_of_le, le_of_lt, mul-le-mul_right, mul_assoc, mul_comm}
use Rattle.std.proofs.Common.{add-mul, mul-pos, one-mul, mul-one, mul_right_comm, le_of_mul-le-mul_right, arith, lit<, lit≤, pow_pos, pow_mono, pow-add, shl_lt, ltb-false, ltb-true}
use native.Mathlib.Nat.{mul-mul-mul_comm, mul-sub}
use lib.Ieee.{Float, nan, inf, fin, binary64, up, down, round, sum, add, sub, mul, div, neg, of_int, of_bits}
use lib.Ieee.Exact.{HasValue, round_exact}
use lib.Ieee.Fits.{down_pos}
use lib.Ieee.Scale.{round_same}
use Rattle.number.specs.Literals.{zero_d}
use Rattle.number.specs.Steps.{◌⊕◌, ◌⊖◌, ◌⊗◌, ◌⊘◌, double}

-- a / c, with the sign s, as a double
abbrev pub frac : Bool → ℕ → ℕ → Float
frac s a c = round binary64 s a c

-- ---- from one value to another
module _ (u c a p q : ℕ) (v : u * c ≡ a * p) where
  -- both sides of a value times q
  cross : u * q * c ≡ a * (p * q)
  cross = mul_right_comm u q c ∙ ap (λ (z : ℕ). z * q) v ∙ mul_assoc a p q

  cross' : u * q * c ≡ a * (q * p)
  cross' = cross ∙ ap (λ (z : ℕ). a * z) (mul_comm p q)

sub_mul : (a b c : ℕ) → (a - b) * c ≡ a * c - b * c
sub_mul a b c = mul_comm (a - b) c ∙ mul-sub c a b ∙ ap₂ (λ (x y : ℕ). x - y) (mul_comm c a) (mul_comm c b)

-- ---- exact
module _ (s : Bool) (e a : ℕ) (l : e ≤ 12) (h : a < 2 ^ 53) where
  exponent : 2 ^ 1074 ≡ 2 ^ (1074 - e) * 2 ^ e
  exponent = let k : 1074 ≡ 1074 - e + e = omega arith in ap (λ (n : ℕ). 2 ^ n) k ∙ pow-add 2 (1074 - e) e

  pub exact : HasValue (frac s a (2 ^ e)) s a (2 ^ e)
  exact =
      let n : 53 + (1074 - e) ≤ 2098 = omega arith in
      round_exact binary64 s a (2 ^ e) a (1074 - e) (pow_pos e) h (lt_of_lt_of_le (shl_lt 53 (1074 - e) h) (pow_mono n))
      (ap (λ (n : ℕ). a * n) exponent ∙ sym (mul_assoc a (2 ^ (1074 - e)) (2 ^ e)))

-- a whole number over any power of two
pub double_is : (e g : ℕ) → double g ≡ frac false (2 ^ e * g) (2 ^ e)
unfolding of_int
double_is e g =
    round_same binary64 false g 1 (2 ^ e * g) (2 ^ e) (lit< tt) (pow_pos e) (mul_comm g (2 ^ e) ∙ sym (mul-one (2 ^ e * g)))

pub zero_is : (c : ℕ) → 0 < c → zero_d ≡ frac false 0 c
unfolding of_bits round
zero_is c p = round_same binary64 false 0 1 0 c (lit< tt) p (omega arith)

-- a whole number has its value
pub whole : (a : ℕ) → a < 2 ^ 53 → HasValue (double a) false a 1
unfolding of_int
whole a h = exact false 0 a (lit≤ tt) h

-- ---- the four operations
pub add_at : (x y : Float) (a b c : ℕ) → HasValue x false a c → HasValue y false b c → 0 < c → x ⊕ y ≡ frac false (a + b) c
unfolding add sum
add_at (fin false m e) (fin false n d) a b c v w p =
    round_same binary64 false (m * up e * down d + n * up d * down e) (down e * down d) (a + b) c (mul-pos (down_pos e) (down_pos d)) p
    (add-mul (m * up e * down d) (n * up d * down e) c
    ∙ ap₂ (λ (x y : ℕ). x + y) (cross (m * up e) c a (down e) (down d) v.1) (cross' (n * up d) c b (down d) (down e) w.1)
    ∙ sym (add-mul a b (down e * down d)))
add_at (fin true m e) y a b c v w p = absurd (let z : ◌≡◌ {A = ℕ} 0 1 = cc v.0 in omega arith)
add_at (fin false m e) (fin true n d) a b c v w p = absurd (let z : ◌≡◌ {A = ℕ} 0 1 = cc w.0 in omega arith)
add_at (fin false m e) nan a b c v w p = absurd w
add_at (fin false m e) (inf t) a b c v w p = absurd w
add_at nan y a b c v w p = absurd v
add_at (inf t) y a b c v w p = absurd v

square_at : (x : Float) (s : Bool) (a c : ℕ) → HasValue x s a c → 0 < c → x ⊗ x ≡ frac false (a * a) (c * c)
unfolding mul
square_at (fin t m e) s a c v p = go t
  where
    same : frac false (m * up e * (m * up e)) (down e * down e) ≡ frac false (a * a) (c * c)
    same =
        round_same binary64 false (m * up e * (m * up e)) (down e * down e) (a * a) (c * c) (mul-pos (down_pos e) (down_pos e)) (mul-pos p p)
        (mul-mul-mul_comm (m * up e) (m * up e) c c ∙ ap (λ (z : ℕ). z * z) v.1 ∙ mul-mul-mul_comm a (down e) a (down e))

    go : (t : Bool) → fin t m e ⊗ fin t m e ≡ frac false (a * a) (c * c)
    go true = same
    go false = same
square_at nan s a c v p = absurd v
square_at (inf t) s a c v p = absurd v

-- a / c by 2 ^ k
pub over_at : (x : Float) (a c k : ℕ) → HasValue x false a c → 0 < c → x ⊘ fin false 1 (pos k) ≡ frac false a (c * 2 ^ k)
unfolding div
over_at (fin false m e) a c k v p =
    round_same binary64 false (m * up e * 1) (1 * 2 ^ k * down e) a (c * 2 ^ k) (mul-pos (mul-pos (lit< tt) (pow_pos k)) (down_pos e)) (mul-pos p (pow_pos k))
    (rw (mul-one (m * up e), one-mul (2 ^ k))
    (sym (mul_assoc (m * up e) c (2 ^ k))
    ∙ ap (λ (z : ℕ). z * 2 ^ k) v.1
    ∙ mul_assoc a (down e) (2 ^ k)
    ∙ ap (λ (z : ℕ). a * z) (mul_comm (down e) (2 ^ k))))
over_at (fin true m e) a c k v p = absurd (let z : ◌≡◌ {A = ℕ} 0 1 = cc v.0 in omega arith)
over_at nan a c k v p = absurd v
over_at (inf t) a c k v p = absurd v

-- the square of a difference; the sign falls away
pub difference_at : (x y : Float) (e a b : ℕ) → HasValue x false a (2 ^ e) → HasValue y false b (2 ^ e) → e ≤ 12 → a < 2 ^ 53 → b < 2 ^ 53
    → (x ⊖ y) ⊗ (x ⊖ y) ≡ frac false (((a - b) + (b - a)) * ((a - b) + (b - a))) (2 ^ e * 2 ^ e)
unfolding sub add neg sum
difference_at (fin false m f) (fin false n d) e a b v w l ha hb = go (ltb A B) refl
  where
    c : ℕ
    c = 2 ^ e

    A : ℕ
    A = m * up f * down d

    B : ℕ
    B = n * up d * down f

    C : ℕ
    C = down f * down d

    left : A * c ≡ a * C
    left = cross (m * up f) c a (down f) (down d) v.1

    right : B * c ≡ b * C
    right = cross' (n * up d) c b (down d) (down f) w.1

    C_pos : 0 < C
    C_pos = mul-pos (down_pos f) (down_pos d)

    wide : (s : Bool) → round binary64 s (B - A) C ≡ frac s (b - a) c
    wide s = round_same binary64 s (B - A) C (b - a) c C_pos (pow_pos e) (sub_mul B A c ∙ ap₂ (λ (x y : ℕ). x - y) right left ∙ sym (sub_mul b a C))

    far : (s : Bool) → round binary64 s (A - B) C ≡ frac s (a - b) c
    far s = round_same binary64 s (A - B) C (a - b) c C_pos (pow_pos e) (sub_mul A B c ∙ ap₂ (λ (x y : ℕ). x - y) left right ∙ sym (sub_mul a b C))

    go : (t : Bool) → ltb A B ≡ t → (fin false m f ⊖ fin false n d) ⊗ (fin false m f ⊖ fin false n d) ≡ frac false (((a - b) + (b - a)) * ((a - b) + (b - a))) (c * c)
    go true h =
        let le : a * C ≤ b * C = rw (← left, ← right) (mul-le-mul_right c (le_of_lt (ltb-true A B h))) in
        let ab : a ≤ b = le_of_mul-le-mul_right {m = a} {n = b} {k = C} le C_pos in
        let same : a - b + (b - a) ≡ b - a = omega arith in
        rw (h, wide true, same) (square_at _ true (b - a) c (exact true e (b - a) l (omega arith)) (pow_pos e))
    go false h =
        let le : b * C ≤ a * C = rw (← left, ← right) (mul-le-mul_right c (ltb-false A B h)) in
        let ba : b ≤ a = le_of_mul-le-mul_right {m = b} {n = a} {k = C} le C_pos in
        let same : a - b + (b - a) ≡ a - b = omega arith in
        rw (h, far false, same) (square_at _ false (a - b) c (exact false e (a - b) l (omega arith)) (pow_pos e))
difference_at (fin true m f) y e a b v w l ha hb = absurd (let z : ◌≡◌ {A = ℕ} 0 1 = cc v.0 in omega arith)
difference_at (fin false m f) (fin true n d) e a b v w l ha hb = absurd (let z : ◌≡◌ {A = ℕ} 0 1 = cc w.0 in omega arith)
difference_at (fin false m f) nan e a b v w l ha hb = absurd w
difference_at (fin false m f) (inf t) e a b v w l ha hb = absurd w
difference_at nan y e a b v w l ha hb = absurd v
difference_at (inf t) y e a b v w l ha hb = absurd v

-- Numbers in two words: a product by halves, and the order. Assumes nothing.
use Rattle.std.proofs.Common.{◌≡◌, ℕ, ◌+◌, ◌-◌, ◌*◌, ◌/◌, ◌%◌, ◌^◌, ◌<◌, ◌≤◌, Bool, true, false, ltb, sym, refl, ap, ◌∙◌, mul-le-mul_right}
use Rattle.std.proofs.Common.{add-mul, mul-le-mul, lt_of_mul-lt-mul_right, div-add-mod', arith, le-ltb, lt-ltb}
use Rattle.std.proofs.Common.{lit≤}
use native.Mathlib.Decide.{dec_lt}
use mir.Val.{bool_byte}
use Rattle.number.proofs.Whole.{sorted}

-- the four products of halves, each small enough for a word with two carries to spare
pub record Halves (u v : ℕ) : Type 0 where
  pub low : u % 2 ^ 32 * (v % 2 ^ 32) ≤ (2 ^ 32 - 1) * (2 ^ 32 - 1)
  pub left : u / 2 ^ 32 * (v % 2 ^ 32) ≤ (2 ^ 32 - 1) * (2 ^ 32 - 1)
  pub right : u % 2 ^ 32 * (v / 2 ^ 32) ≤ (2 ^ 32 - 1) * (2 ^ 32 - 1)
  pub high : u / 2 ^ 32 * (v / 2 ^ 32) ≤ (2 ^ 32 - 1) * (2 ^ 32 - 1)

pub halves : (u v : ℕ) → u < 2 ^ 64 → v < 2 ^ 64 → Halves u v
halves u v hu hv =
    let u1 : u / 2 ^ 32 ≤ 2 ^ 32 - 1 = omega arith in
    let u0 : u % 2 ^ 32 ≤ 2 ^ 32 - 1 = omega arith in
    let v1 : v / 2 ^ 32 ≤ 2 ^ 32 - 1 = omega arith in
    let v0 : v % 2 ^ 32 ≤ 2 ^ 32 - 1 = omega arith in
    record { low = mul-le-mul u0 v0; left = mul-le-mul u1 v0; right = mul-le-mul u0 v1; high = mul-le-mul u1 v1 }

-- the same, each a fact of its own
pub low_small : (u v : ℕ) → u < 2 ^ 64 → v < 2 ^ 64 → u % 2 ^ 32 * (v % 2 ^ 32) ≤ (2 ^ 32 - 1) * (2 ^ 32 - 1)
low_small u v hu hv = (halves u v hu hv).low

pub left_small : (u v : ℕ) → u < 2 ^ 64 → v < 2 ^ 64 → u / 2 ^ 32 * (v % 2 ^ 32) ≤ (2 ^ 32 - 1) * (2 ^ 32 - 1)
left_small u v hu hv = (halves u v hu hv).left

pub right_small : (u v : ℕ) → u < 2 ^ 64 → v < 2 ^ 64 → u % 2 ^ 32 * (v / 2 ^ 32) ≤ (2 ^ 32 - 1) * (2 ^ 32 - 1)
right_small u v hu hv = (halves u v hu hv).right

pub high_small : (u v : ℕ) → u < 2 ^ 64 → v < 2 ^ 64 → u / 2 ^ 32 * (v / 2 ^ 32) ≤ (2 ^ 32 - 1) * (2 ^ 32 - 1)
high_small u v hu hv = (halves u v hu hv).high

pub ruleset halves_small = (low_small, left_small, right_small, high_small)

-- ---- a product of two digits by two, in any base P, column by column with the carries

-- the middle column's sum, and the next one's
abbrev pub middle : (P u v : ℕ) → ℕ
middle P u v = u / P * (v % P) + u % P * (v % P) / P

abbrev pub next : (P u v : ℕ) → ℕ
next P u v = middle P u v % P + u % P * (v / P)

step₁ : (P a b c d : ℕ) → (a * P + b) * (c * P + d) ≡ a * c * (P * P) + (a * d + b * c) * P + b * d
step₁ P a b c d = simp sorted refl

step₂ : (P h l r q s : ℕ) → h * (P * P) + (l + r) * P + (q * P + s) ≡ h * (P * P) + (l + q) * P + r * P + s
step₂ P h l r q s = simp sorted refl

step₃ : (P h r s q t : ℕ) → h * (P * P) + (q * P + t) * P + r * P + s ≡ h * (P * P) + q * (P * P) + (t + r) * P + s
step₃ P h r s q t = simp sorted refl

step₄ : (P h s p q t : ℕ) → h * (P * P) + p * (P * P) + (q * P + t) * P + s ≡ (h + p + q) * (P * P) + (t * P + s)
step₄ P h s p q t = simp sorted refl

pub columns : (P u v : ℕ)
    → (u / P * (v / P) + middle P u v / P + next P u v / P) * (P * P) + (next P u v % P * P + u % P * (v % P) % P) ≡ u * v
columns P u v =
    let h = u / P * (v / P) in
    let r = u % P * (v / P) in
    let w = u % P * (v % P) in
    sym
    (sym (λ i. div-add-mod' u P i * div-add-mod' v P i) ∙ step₁ P (u / P) (u % P) (v / P) (v % P)
    ∙ ap (λ (x : ℕ). h * (P * P) + (u / P * (v % P) + r) * P + x) (sym (div-add-mod' w P)) ∙ step₂ P h (u / P * (v % P)) r (w / P) (w % P)
    ∙ ap (λ (x : ℕ). h * (P * P) + x * P + r * P + w % P) (sym (div-add-mod' (middle P u v) P)) ∙ step₃ P h r (w % P) (middle P u v / P) (middle P u v % P)
    ∙ ap (λ (x : ℕ). h * (P * P) + middle P u v / P * (P * P) + x * P + w % P) (sym (div-add-mod' (next P u v) P))
    ∙ step₄ P h (w % P) (middle P u v / P) (next P u v / P) (next P u v % P))

-- ---- a test as a number

pub bit_small : (b : Bool) → bool_byte b ≤ 1
bit_small true = lit≤ tt
bit_small false = lit≤ tt

-- ---- the order of two numbers of two digits

-- two tests that hold together are one
pub ltb_same : (a b c d : ℕ) → (a < b → c < d) → (b ≤ a → d ≤ c) → ltb a b ≡ ltb c d
ltb_same a b c d f g = go (dec_lt a b)
  where
    go : Dec (a < b) → ltb a b ≡ ltb c d
    go (yes l) = lt-ltb a b l ∙ sym (lt-ltb c d (f l))
    go (no l) = let h : b ≤ a = omega arith in le-ltb a b h ∙ sym (le-ltb c d (g h))

module _ (P a b c d : ℕ) where
  pub same_high : a ≡ c → ltb b d ≡ ltb (a * P + b) (c * P + d)
  same_high e = rw e (ltb_same b d (c * P + b) (c * P + d) (λ l. omega arith) (λ l. omega arith))

  pub other_high : b < P → d < P → (a ≡ c → ⊥) → ltb a c ≡ ltb (a * P + b) (c * P + d)
  other_high hb hd n = ltb_same a c (a * P + b) (c * P + d) f g
    where
      f : a < c → a * P + b < c * P + d
      f l = let m : (a + 1) * P ≤ c * P = mul-le-mul_right P (omega arith) in omega (arith, add-mul a 1 P)

      g : c ≤ a → c * P + d ≤ a * P + b
      g l = let k : c + 1 ≤ a = omega arith in let m : (c + 1) * P ≤ a * P = mul-le-mul_right P k in omega (arith, add-mul c 1 P)

-- ---- two digits times one: the low digit's product has two, and the high one's goes to the upper of them
module _ (B h l m h' l' : ℕ) (e : h' * B + l' ≡ l * m) where
  pub times_is : (h * m + h') * B + l' ≡ (h * B + l) * m
  times_is =
      let a : (h * m + h') * B + l' ≡ h * m * B + (h' * B + l') = simp sorted refl in
      let b : h * m * B + l * m ≡ (h * B + l) * m = simp sorted refl in
      a ∙ ap (λ (x : ℕ). h * m * B + x) e ∙ b

  -- it has room where the product has
  pub times_fits : (h * B + l) * m < B * B → h * m + h' < B
  times_fits k = lt_of_mul-lt-mul_right B (omega (arith, k, times_is))

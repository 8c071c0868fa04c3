-- How many units a double has on one side of zero; a unit is the smallest double above it. The side b is true for what is below zero. Of a rounded
-- fraction that is at most what the exact one has, its 2^53rd part and half a unit, and at least that much less. Assumes nothing.
use Rattle.std.proofs.Common.{◌≡◌, ℕ, zero, suc, ◌+◌, ◌-◌, ◌*◌, ◌/◌, ◌%◌, ◌^◌, ◌<◌, ◌≤◌, Bool, true, false, cond, ◌&&◌, ◌||◌, T, eqb, ltb, leb, ℤ, pos, negsuc, sym, refl, ap, ◌∙◌, subst, ap₂, zero-le}
use Rattle.std.proofs.Common.{mul-le-mul_right, mul_assoc, mul_comm, mul-pos, zero-mul, mul-one, le_of_mul-le-mul_right, div-one, mul-div_cancel, arith, eqb→eq, ltb→lt, leb→le, pow_pos, pow-add}
use mathlib.Core.Bool.{beq}
use native.Mathlib.Nat.{zero-div, eq_of_mul-eq-mul_right}
use lib.Ieee.{Float, nan, inf, fin, binary64, prec, emax, low, up, down, round, le, fits}
use lib.Ieee.Fits.{and_l, and_r, up_pos, down_pos}
use lib.Ieee.Exact.{HasValue}
use lib.Ieee.Positive.{num, den, positive}
use lib.Ieee.Scale.{grid, finite}
use Rattle.number.specs.Root.{units_of}
use Rattle.number.proofs.Doubles.{units_are}
use Rattle.number.proofs.Nearest.{power_le}
use Rattle.number.proofs.Order.{Within, or_le}
use Rattle.number.proofs.Overflow.{never}
use Rattle.number.proofs.Rounding.{Most, Least, round_has, round_off}

-- 1.0 in units
abbrev pub one : ℕ
one = 2 ^ low binary64

-- a, where the sign s is that of the side b
abbrev pub on : Bool → Bool → ℕ → ℕ
on b s a = cond (beq s b) a 0

abbrev pub part : Bool → Float → ℕ
part b nan = 0
part b (inf s) = 0
part b (fin s m e) = on b s (units_of (fin s m e))

-- ---- a double is a whole number of units

whole_units : (l m : ℕ) (e : ℤ) → down e ≤ 2 ^ l → m * up e * 2 ^ l / down e * down e ≡ m * up e * 2 ^ l
whole_units l m (pos k) h = mul-one (m * 2 ^ k * 2 ^ l / 1) ∙ div-one (m * 2 ^ k * 2 ^ l)
whole_units l m (negsuc k) h =
    let j : l ≡ l - suc k + suc k = omega (arith, power_le (suc k) l h) in
    let is : m * 1 * 2 ^ l ≡ m * 1 * 2 ^ (l - suc k) * 2 ^ suc k =
    ap (λ (x : ℕ). m * 1 * x) (ap (λ (x : ℕ). 2 ^ x) j ∙ pow-add 2 (l - suc k) (suc k)) ∙ sym (mul_assoc (m * 1) (2 ^ (l - suc k)) (2 ^ suc k)) in
    ap (λ (x : ℕ). x / 2 ^ suc k * 2 ^ suc k) is ∙ ap (λ (x : ℕ). x * 2 ^ suc k) (mul-div_cancel (m * 1 * 2 ^ (l - suc k)) (pow_pos (suc k))) ∙ sym is

pub units_exact : (s : Bool) (m : ℕ) (e : ℤ) → T (fits binary64 (fin s m e)) → units_of (fin s m e) * down e ≡ m * up e * one
unfolding fits units_of
units_exact s zero e h = rw (zero-mul (up e), zero-mul one, zero-div (down e), zero-mul (down e))
units_exact s (suc m) e h =
    let A = eqb (suc m % 2) 1 in
    let B = ltb (suc m) (2 ^ prec binary64) in
    let C = leb (down e) (2 ^ low binary64) in
    let D = ltb (suc m * up e) (2 ^ suc (emax binary64) * down e) in
    whole_units (low binary64) (suc m) e (leb→le (down e) (2 ^ low binary64) (and_r (A && B) C (and_l (A && B && C) D h)))

part_is : (b : Bool) (x : Float) (s : Bool) (g : ℕ) → HasValue x s g one → part b x ≡ on b s g
part_is b nan s g h = absurd h
part_is b (inf t) s g h = absurd h
part_is b (fin t m e) s g h = ap₂ (λ (z : Bool) (n : ℕ). on b z n) h.0 (units_are (fin t m e) s g h)

-- ---- a fraction a / c, rounded

most_of : (z l n c : ℕ) → Most z l c → l ≤ n → Most z n c
most_of z l n c h k = omega arith

none_of : (n c : ℕ) → Most (0 * c) n c
none_of n c = omega arith

module _ (a c : ℕ) (C : 0 < c) where
  pub round_most : (b s : Bool) (n : ℕ) → finite (round binary64 s a c) ≡ true → on b s (a * one) ≤ n
      → Most (part b (round binary64 s a c) * c) n c
  round_most b s n e h =
      subst (λ (z : ℕ). Most (z * c) n c) (sym (part_is b (round binary64 s a c) s (grid binary64 a c) (round_has s a c e))) (go (beq s b) h)
    where
      go : (t : Bool) → cond t (a * one) 0 ≤ n → Most (cond t (grid binary64 a c) 0 * c) n c
      go true k = most_of (grid binary64 a c * c) (a * one) n c (round_off a c C).0 k
      go false k = none_of n c

  pub round_least : (b : Bool) → finite (round binary64 b a c) ≡ true → Least (part b (round binary64 b a c) * c) (a * one) c
  round_least b e = subst (λ (z : ℕ). Least (z * c) (a * one) c) (sym own) (round_off a c C).1
    where
      same : (b : Bool) (g : ℕ) → on b b g ≡ g
      same true g = refl
      same false g = refl

      own : part b (round binary64 b a c) ≡ grid binary64 a c
      own = part_is b (round binary64 b a c) b (grid binary64 a c) (round_has b a c e) ∙ same b (grid binary64 a c)

-- ---- from fractions to units: u units are a / d, l being one

pub on_units : (b s : Bool) (u a d l : ℕ) → u * d ≡ a * l → on b s a * l ≡ on b s u * d
on_units b s u a d l h = go (beq s b)
  where
    go : (t : Bool) → cond t a 0 * l ≡ cond t u 0 * d
    go true = sym h
    go false = omega arith

on_scaled : (b s : Bool) (u a d k l : ℕ) → u * d ≡ a * l → on b s (a * k) * l ≡ on b s u * (d * k)
on_scaled b s u a d k l h = go (beq s b)
  where
    go : (t : Bool) → cond t (a * k) 0 * l ≡ cond t u 0 * (d * k)
    go true = omega (arith, ap (λ (x : ℕ). x * k) h)
    go false = omega arith

module _ (b s : Bool) (m : ℕ) (e : ℤ) (k : ℕ) (f : T (fits binary64 (fin s m e))) where
  pub part_over : on b s (m * up e * k) * one ≡ part b (fin s m e) * (down e * k)
  part_over = on_scaled b s (units_of (fin s m e)) (m * up e) (down e) k one (units_exact s m e f)

  pub part_over' : on b s (m * up e * k) * one ≡ part b (fin s m e) * (k * down e)
  part_over' = part_over ∙ ap (λ (x : ℕ). part b (fin s m e) * x) (mul_comm (down e) k)

-- ---- in order, so are the parts

ge_or : (a b : ℕ) (r : Bool) → T (ltb b a || (eqb a b && r)) → b ≤ a
ge_or a b r t = go (ltb b a) refl t
  where
    go : (x : Bool) → ltb b a ≡ x → T (x || (eqb a b && r)) → b ≤ a
    go true p h = omega (arith, ltb→lt b a (subst T (sym p) tt))
    go false p h = omega (arith, eqb→eq a b (and_l (eqb a b) r h))

-- x / c is u units and y / c is v
crossed : (x y u v c l : ℕ) → 0 < c → x * l ≡ u * c → y * l ≡ v * c → x ≤ y → u ≤ v
crossed x y u v c l C p q h = le_of_mul-le-mul_right {m = u} {n = v} {k = c} (omega (arith, p, q, mul-le-mul_right l h)) C

zero_units : (x u c l : ℕ) → 0 < c → x * l ≡ u * c → x ≡ 0 → u ≤ 0
zero_units x u c l C p h = crossed x 0 u 0 c l C p (omega arith) (omega (arith, h))

module _ (m n : ℕ) (e d : ℤ) where
  abbrev a : ℕ
  a = m * up e * down d

  abbrev k : ℕ
  k = n * up d * down e

  c_pos : 0 < down e * down d
  c_pos = mul-pos (down_pos e) (down_pos d)

  ordered : (s t : Bool) → T (fits binary64 (fin s m e)) → T (fits binary64 (fin t n d)) → T (le (fin s m e) (fin t n d))
      → (part false (fin s m e) ≤ part false (fin t n d)) × (part true (fin t n d) ≤ part true (fin s m e))
  unfolding le
  ordered false false f g h =
      (crossed a k (units_of (fin false m e)) (units_of (fin false n d)) (down e * down d) one c_pos (part_over false false m e (down d) f) (part_over' false false n d (down e) g) (or_le a k true h), zero-le)
  ordered true true f g h =
      (zero-le, crossed k a (units_of (fin true n d)) (units_of (fin true m e)) (down e * down d) one c_pos (part_over' true true n d (down e) g) (part_over true true m e (down d) f) (ge_or a k true h))
  ordered true false f g h = (zero-le, zero-le)
  ordered false true f g h =
      let level : a ≡ k = eqb→eq a k (and_l (eqb a k) (eqb a 0) h) in
      let none : a ≡ 0 = eqb→eq a 0 (and_r (eqb a k) (eqb a 0) h) in (
        zero_units a (units_of (fin false m e)) (down e * down d) one c_pos (part_over false false m e (down d) f) none,
        zero_units k (units_of (fin true n d)) (down e * down d) one c_pos (part_over' true true n d (down e) g) (sym level ∙ none),
      )

pub le_parts : (x y : Float) → finite x ≡ true → finite y ≡ true → T (fits binary64 x) → T (fits binary64 y) → T (le x y)
    → (part false x ≤ part false y) × (part true y ≤ part true x)
le_parts nan y p q f g h = absurd (never p)
le_parts (inf s) y p q f g h = absurd (never p)
le_parts (fin s m e) nan p q f g h = absurd (never q)
le_parts (fin s m e) (inf t) p q f g h = absurd (never q)
le_parts (fin s m e) (fin t n d) p q f g h = ordered m n e d s t f g h

-- ---- numbers as fractions and in units

-- a number from -0 on has nothing below zero
pub within_none : (k : ℕ) (c : Float) → Within k c → T (fits binary64 c) → part true c ≡ 0
within_none k nan w f = refl
within_none k (inf s) w f = refl
within_none k (fin false m e) w f = refl
within_none k (fin true m e) w f =
    eq_of_mul-eq-mul_right (down e) (down_pos e) (units_of (fin true m e)) 0
    (units_exact true m e f ∙ ap (λ (x : ℕ). x * one) (w.0 refl) ∙ zero-mul one ∙ sym (zero-mul (down e)))

pub within_units : (k : ℕ) (c : Float) → Within k c → T (fits binary64 c) → part false c * den c ≡ num c * one
within_units k nan w f = absurd w
within_units k (inf s) w f = absurd w
within_units k (fin false m e) w f = units_exact false m e f
within_units k (fin true m e) w f = zero-mul (down e) ∙ sym (ap (λ (x : ℕ). x * one) (w.0 refl) ∙ zero-mul one)

pub positive_units : (x : Float) → T (positive x) → T (fits binary64 x) → part false x * den x ≡ num x * one
positive_units nan p f = absurd p
positive_units (inf s) p f = absurd p
positive_units (fin true m e) p f = absurd p
positive_units (fin false m e) p f = units_exact false m e f

pub positive_above : (x : Float) → T (positive x) → 0 < num x
positive_above nan p = absurd p
positive_above (inf s) p = absurd p
positive_above (fin true m e) p = absurd p
positive_above (fin false m e) p = mul-pos (ltb→lt 0 m p) (up_pos e)

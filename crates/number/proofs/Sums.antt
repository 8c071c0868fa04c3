-- What a sum of two doubles has on one side of zero: at most what both have there, and the error of rounding; and at least that less the error, where
-- neither has anything on the other side. Assumes nothing.
use Rattle.std.proofs.Common.{◌≡◌, ℕ, zero, suc, ◌+◌, ◌-◌, ◌*◌, ◌^◌, ◌<◌, ◌≤◌, Bool, true, false, cond, not, T, ltb, ℤ, sym, refl, ap, ◌∙◌, subst, zero-le}
use Rattle.std.proofs.Common.{le_refl, mul-le-mul_right, mul-pos, zero-mul, le_of_mul-le-mul_right, arith, pow_pos, ltb-false, le-ltb, lt-ltb}
use mathlib.Core.Bool.{beq}
use native.Mathlib.Nat.{eq_of_mul-eq-mul_right}
use native.Mathlib.Decide.{dec_le}
use lib.Ieee.{Float, nan, inf, fin, binary64, low, up, down, round, sum, add, fits}
use lib.Ieee.Fits.{down_pos}
use lib.Ieee.Scale.{finite}
use Rattle.number.specs.Steps.{◌⊕◌}
use Rattle.number.proofs.Overflow.{never, add_finite}
use Rattle.number.proofs.Parts.{one, on, part, part_over, part_over', round_most, round_least}
use Rattle.number.proofs.Rounding.{Most, Least}

-- ---- of fractions

like_le : (b s : Bool) (x y l : ℕ) → on b s ((x + y) * l) ≤ (on b s x + on b s y) * l
like_le b s x y l = go (beq s b)
  where
    go : (t : Bool) → cond t ((x + y) * l) 0 ≤ (cond t x 0 + cond t y 0) * l
    go true = le_refl ((x + y) * l)
    go false = zero-le

left_le : (b s : Bool) (a x y l : ℕ) → a ≤ x → on b s (a * l) ≤ (on b s x + y) * l
left_le b s a x y l h = go (beq s b)
  where
    go : (t : Bool) → cond t (a * l) 0 ≤ (cond t x 0 + y) * l
    go true = mul-le-mul_right {m = a} {n = x + y} l (omega (arith, h))
    go false = zero-le

right_le : (b s : Bool) (a x y l : ℕ) → a ≤ y → on b s (a * l) ≤ (x + on b s y) * l
right_le b s a x y l h = go (beq s b)
  where
    go : (t : Bool) → cond t (a * l) 0 ≤ (x + cond t y 0) * l
    go true = mul-le-mul_right {m = a} {n = x + y} l (omega (arith, h))
    go false = zero-le

module _ (b : Bool) (x y c : ℕ) (C : 0 < c) where
  abbrev SumMost : Bool → Bool → Float → Type 0
  SumMost s t r = Most (part b r * c) ((on b s x + on b t y) * one) c

  below_less : finite (sum binary64 true x false y c) ≡ true → SumMost true false (sum binary64 true x false y c)
  unfolding sum
  below_less = go (ltb x y) (ltb y x) refl
    where
      go : (p q : Bool) → ltb y x ≡ q → finite (cond p (round binary64 false (y - x) c) (round binary64 q (x - y) c)) ≡ true
          → SumMost true false (cond p (round binary64 false (y - x) c) (round binary64 q (x - y) c))
      go true q h e = round_most (y - x) c C b false ((on b true x + on b false y) * one) e (right_le b false (y - x) (on b true x) y one (omega arith))
      go false true h e = round_most (x - y) c C b true ((on b true x + on b false y) * one) e (left_le b true (x - y) x (on b false y) one (omega arith))
      go false false h e = round_most (x - y) c C b false ((on b true x + on b false y) * one) e (right_le b false (x - y) (on b true x) y one (omega (arith, ltb-false y x h)))

  above_less : finite (sum binary64 false x true y c) ≡ true → SumMost false true (sum binary64 false x true y c)
  unfolding sum
  above_less = go (ltb x y)
    where
      go : (p : Bool) → finite (cond p (round binary64 true (y - x) c) (round binary64 false (x - y) c)) ≡ true
          → SumMost false true (cond p (round binary64 true (y - x) c) (round binary64 false (x - y) c))
      go true e = round_most (y - x) c C b true ((on b false x + on b true y) * one) e (right_le b true (y - x) (on b false x) y one (omega arith))
      go false e = round_most (x - y) c C b false ((on b false x + on b true y) * one) e (left_le b false (x - y) x (on b true y) one (omega arith))

  sum_most : (s t : Bool) → finite (sum binary64 s x t y c) ≡ true → SumMost s t (sum binary64 s x t y c)
  unfolding sum
  sum_most true true e = round_most (x + y) c C b true ((on b true x + on b true y) * one) e (like_le b true x y one)
  sum_most false false e = round_most (x + y) c C b false ((on b false x + on b false y) * one) e (like_le b false x y one)
  sum_most true false e = below_less e
  sum_most false true e = above_less e

-- two on the side b, and not both 0
one_side : (b s t : Bool) (x y c : ℕ) → on (not b) s x ≡ 0 → on (not b) t y ≡ 0 → 0 < on b s x + on b t y
    → sum binary64 s x t y c ≡ round binary64 b (on b s x + on b t y) c
unfolding sum
one_side true true true x y c p q h = refl
one_side true false false x y c p q h = absurd (omega (arith, h))
one_side true true false x y c p q h =
    let z : x - y ≡ x + 0 = omega (arith, q) in
    rw (le-ltb x y (omega (arith, q)), lt-ltb y x (omega (arith, q, h)), z)
one_side true false true x y c p q h =
    let z : y - x ≡ 0 + y = omega (arith, p) in
    rw (lt-ltb x y (omega (arith, p, h)), z)
one_side false false false x y c p q h = refl
one_side false true true x y c p q h = absurd (omega (arith, h))
one_side false false true x y c p q h =
    let z : x - y ≡ x + 0 = omega (arith, q) in
    rw (le-ltb x y (omega (arith, q)), z)
one_side false true false x y c p q h =
    let z : y - x ≡ 0 + y = omega (arith, p) in
    rw (lt-ltb x y (omega (arith, p, h)), z)

sum_least : (b s t : Bool) (x y c : ℕ) → 0 < c → on (not b) s x ≡ 0 → on (not b) t y ≡ 0 → finite (sum binary64 s x t y c) ≡ true
    → Least (part b (sum binary64 s x t y c) * c) ((on b s x + on b t y) * one) c
sum_least b s t x y c C p q e = go (dec_le (on b s x + on b t y) 0)
  where
    n : ℕ
    n = on b s x + on b t y

    r : Float
    r = sum binary64 s x t y c

    none : (n l z : ℕ) → n ≤ 0 → Least z (n * l) c
    none zero l z h = omega arith
    none (suc n) l z h = absurd (omega arith)

    go : Dec (n ≤ 0) → Least (part b r * c) (n * one) c
    go (yes l) = none n one (part b r * c) l
    go (no l) =
        let is = one_side b s t x y c p q (omega (arith, l)) in
        subst (λ (z : Float). Least (part b z * c) (n * one) c) (sym is) (round_least n c C b (subst (λ (z : Float). finite z ≡ true) is e))

-- ---- of doubles

module _ (r x y u v c l : ℕ) (C : 0 < c) (p : x * l ≡ u * c) (q : y * l ≡ v * c) where
  sum_upto : Most (r * c) ((x + y) * l) c → Most r (u + v) 1
  sum_upto h = le_of_mul-le-mul_right {m = 2 ^ 53 * r} {n = 2 ^ 53 * (u + v) + (u + v + 2 ^ 52)} {k = c} (omega (arith, p, q, h)) C

  sum_from : Least (r * c) ((x + y) * l) c → Least r (u + v) 1
  sum_from h = le_of_mul-le-mul_right {m = 2 ^ 53 * (u + v)} {n = 2 ^ 53 * r + (u + v + 2 ^ 52)} {k = c} (omega (arith, p, q, h)) C

module _ (b s t : Bool) (m n : ℕ) (e d : ℤ) (f : T (fits binary64 (fin s m e))) (g : T (fits binary64 (fin t n d))) where
  abbrev c : ℕ
  c = down e * down d

  c_pos : 0 < c
  c_pos = mul-pos (down_pos e) (down_pos d)

  sum_parts_most : finite (fin s m e ⊕ fin t n d) ≡ true → Most (part b (fin s m e ⊕ fin t n d)) (part b (fin s m e) + part b (fin t n d)) 1
  unfolding add
  sum_parts_most h =
      sum_upto (part b (fin s m e ⊕ fin t n d)) (on b s (m * up e * down d)) (on b t (n * up d * down e)) (part b (fin s m e)) (part b (fin t n d)) c one c_pos (part_over b s m e (down d) f) (part_over' b t n d (down e) g)
      (sum_most b (m * up e * down d) (n * up d * down e) c c_pos s t h)

  -- nothing of it on the other side
  empty : (a k : ℕ) → 0 < k → a * k ≡ 0 * k → a ≡ 0
  empty a k K h = eq_of_mul-eq-mul_right k K a 0 h

  none_first : part (not b) (fin s m e) ≡ 0 → on (not b) s (m * up e * down d) ≡ 0
  none_first h = empty (on (not b) s (m * up e * down d)) one (pow_pos (low binary64)) (part_over (not b) s m e (down d) f ∙ ap (λ (x : ℕ). x * c) h ∙ zero-mul c ∙ sym (zero-mul one))

  none_second : part (not b) (fin t n d) ≡ 0 → on (not b) t (n * up d * down e) ≡ 0
  none_second h = empty (on (not b) t (n * up d * down e)) one (pow_pos (low binary64)) (part_over' (not b) t n d (down e) g ∙ ap (λ (x : ℕ). x * c) h ∙ zero-mul c ∙ sym (zero-mul one))

  sum_parts_least : part (not b) (fin s m e) ≡ 0 → part (not b) (fin t n d) ≡ 0 → finite (fin s m e ⊕ fin t n d) ≡ true
      → Least (part b (fin s m e ⊕ fin t n d)) (part b (fin s m e) + part b (fin t n d)) 1
  unfolding add
  sum_parts_least p q h =
      sum_from (part b (fin s m e ⊕ fin t n d)) (on b s (m * up e * down d)) (on b t (n * up d * down e)) (part b (fin s m e)) (part b (fin t n d)) c one c_pos (part_over b s m e (down d) f) (part_over' b t n d (down e) g)
      (sum_least b s t (m * up e * down d) (n * up d * down e) c c_pos (none_first p) (none_second q) h)

pub add_most : (b : Bool) (x y : Float) → T (fits binary64 x) → T (fits binary64 y) → finite (x ⊕ y) ≡ true
    → Most (part b (x ⊕ y)) (part b x + part b y) 1
add_most b x y f g h = go x y f g h (add_finite binary64 x y h).0 (add_finite binary64 x y h).1
  where
    go : (x y : Float) → T (fits binary64 x) → T (fits binary64 y) → finite (x ⊕ y) ≡ true → finite x ≡ true → finite y ≡ true
        → Most (part b (x ⊕ y)) (part b x + part b y) 1
    go nan y f g h p q = absurd (never p)
    go (inf s) y f g h p q = absurd (never p)
    go (fin s m e) nan f g h p q = absurd (never q)
    go (fin s m e) (inf t) f g h p q = absurd (never q)
    go (fin s m e) (fin t n d) f g h p q = sum_parts_most b s t m n e d f g h

pub add_least : (b : Bool) (x y : Float) → T (fits binary64 x) → T (fits binary64 y) → part (not b) x ≡ 0 → part (not b) y ≡ 0 → finite (x ⊕ y) ≡ true
    → Least (part b (x ⊕ y)) (part b x + part b y) 1
add_least b x y f g i j h = go x y f g i j h (add_finite binary64 x y h).0 (add_finite binary64 x y h).1
  where
    go : (x y : Float) → T (fits binary64 x) → T (fits binary64 y) → part (not b) x ≡ 0 → part (not b) y ≡ 0 → finite (x ⊕ y) ≡ true → finite x ≡ true → finite y ≡ true
        → Least (part b (x ⊕ y)) (part b x + part b y) 1
    go nan y f g i j h p q = absurd (never p)
    go (inf s) y f g i j h p q = absurd (never p)
    go (fin s m e) nan f g i j h p q = absurd (never q)
    go (fin s m e) (inf t) f g i j h p q = absurd (never q)
    go (fin s m e) (fin t n d) f g i j h p q = sum_parts_least b s t m n e d f g i j h

-- What a quotient has on one side of zero, of a double by a positive number: what the exact one has, but for the error of rounding. By a number of
-- at least 1 no double overflows. Assumes nothing.
use Rattle.std.proofs.Common.{◌≡◌, ℕ, zero, suc, ◌+◌, ◌*◌, ◌^◌, ◌<◌, ◌≤◌, Bool, true, false, cond, T, ltb, ℤ, sym, refl, ap, ◌∙◌, subst, zero-le, mul-le-mul_right, mul_comm, mul-pos, zero-mul, arith, ltb→lt, pow_pos, pow-add, ne_eqb}
use mathlib.Core.Bool.{beq}
use native.Mathlib.Nat.{zero-div}
use lib.Ieee.{Float, nan, inf, fin, binary64, prec, emax, low, up, down, odd, units, round, div, le, fits}
use lib.Ieee.Fits.{up_pos, down_pos, round_is}
use lib.Ieee.Exact.{HasValue, odd_sign, round_exact}
use lib.Ieee.Order.{drop, kept, round_mono}
use lib.Ieee.Positive.{num, den, positive}
use lib.Ieee.Scale.{finite}
use Rattle.number.specs.Root.{units_of}
use Rattle.number.specs.Steps.{◌⊘◌}
use Rattle.number.proofs.Nearest.{shape, units_in}
use Rattle.number.proofs.Overflow.{never, div_finite}
use Rattle.number.proofs.Parts.{one, on, part, units_exact, on_units, round_most, round_least}
use Rattle.number.proofs.Products.{times_upto, times_from, of_none}
use Rattle.number.proofs.Rounding.{Most, Least, Rounds}

over_le : (b s : Bool) (x k l : ℕ) → on b s (x * k * l) ≤ k * (on b s x * l)
over_le b s x k l = go (beq s b)
  where
    go : (t : Bool) → cond t (x * k * l) 0 ≤ k * (cond t x 0 * l)
    go true = omega arith
    go false = zero-le

module _ (n : ℕ) (d : ℤ) (N : 0 < n) where
  over_is : (s : Bool) (m : ℕ) (e : ℤ) → fin s m e ⊘ fin false n d ≡ round binary64 s (m * up e * down d) (n * up d * down e)
  unfolding div
  over_is true m e = rw (ne_eqb n 0 (omega (arith, N)))
  over_is false m e = rw (ne_eqb n 0 (omega (arith, N)))

  n_pos : (e : ℤ) → 0 < n * up d * down e
  n_pos e = mul-pos (mul-pos N (up_pos d)) (down_pos e)

  quotient_most : (b s : Bool) (m : ℕ) (e : ℤ) → T (fits binary64 (fin s m e)) → finite (fin s m e ⊘ fin false n d) ≡ true
      → Most (n * up d * part b (fin s m e ⊘ fin false n d)) (down d * part b (fin s m e)) (n * up d)
  quotient_most b s m e f h =
      times_upto (part b (fin s m e ⊘ fin false n d)) (down d) (n * up d) (on b s (m * up e)) (part b (fin s m e)) (down e) one (down_pos e)
      (on_units b s (units_of (fin s m e)) (m * up e) (down e) one (units_exact s m e f))
      (subst (λ (z : Float). Most (part b z * (n * up d * down e)) (down d * (on b s (m * up e) * one)) (n * up d * down e)) (sym (over_is s m e))
      (round_most (m * up e * down d) (n * up d * down e) (n_pos e) b s (down d * (on b s (m * up e) * one)) (subst (λ (z : Float). finite z ≡ true) (over_is s m e) h) (over_le b s (m * up e) (down d) one)))

  exchanged : (r p q x u k l : ℕ) → 0 < k → u * k ≡ x * l → Least (r * (q * k)) (x * p * l) (q * k)
      → Least (q * r) (p * u) q
  exchanged r p q x u k l K h g = times_from r p q x u k l K (sym h) (omega (arith, g))

  quotient_least : (b s : Bool) (m : ℕ) (e : ℤ) → T (fits binary64 (fin s m e)) → finite (fin s m e ⊘ fin false n d) ≡ true
      → Least (n * up d * part b (fin s m e ⊘ fin false n d)) (down d * part b (fin s m e)) (n * up d)
  quotient_least true false m e f h = of_none (down d) (n * up d) (part true (fin false m e ⊘ fin false n d))
  quotient_least false true m e f h = of_none (down d) (n * up d) (part false (fin true m e ⊘ fin false n d))
  quotient_least true true m e f h =
      exchanged (part true (fin true m e ⊘ fin false n d)) (down d) (n * up d) (m * up e) (units_of (fin true m e)) (down e) one (down_pos e) (units_exact true m e f)
      (subst (λ (z : Float). Least (part true z * (n * up d * down e)) (m * up e * down d * one) (n * up d * down e)) (sym (over_is true m e))
      (round_least (m * up e * down d) (n * up d * down e) (n_pos e) true (subst (λ (z : Float). finite z ≡ true) (over_is true m e) h)))
  quotient_least false false m e f h =
      exchanged (part false (fin false m e ⊘ fin false n d)) (down d) (n * up d) (m * up e) (units_of (fin false m e)) (down e) one (down_pos e) (units_exact false m e f)
      (subst (λ (z : Float). Least (part false z * (n * up d * down e)) (m * up e * down d * one) (n * up d * down e)) (sym (over_is false m e))
      (round_least (m * up e * down d) (n * up d * down e) (n_pos e) false (subst (λ (z : Float). finite z ≡ true) (over_is false m e) h)))

pub div_rounds : (b : Bool) (x w : Float) → T (fits binary64 x) → T (positive w) → finite (x ⊘ w) ≡ true
    → Rounds (num w * part b (x ⊘ w)) (den w * part b x) (num w)
div_rounds b x nan f p h = absurd p
div_rounds b x (inf t) f p h = absurd p
div_rounds b x (fin true n d) f p h = absurd p
div_rounds b x (fin false n d) f p h = go x f h (div_finite binary64 x (fin false n d) refl h)
  where
    go : (x : Float) → T (fits binary64 x) → finite (x ⊘ fin false n d) ≡ true → finite x ≡ true
        → Rounds (n * up d * part b (x ⊘ fin false n d)) (down d * part b x) (n * up d)
    go nan f h q = absurd (never q)
    go (inf s) f h q = absurd (never q)
    go (fin s m e) f h q = (quotient_most n d (ltb→lt 0 n p) b s m e f h, quotient_least n d (ltb→lt 0 n p) b s m e f h)

-- ---- a double over one that is at least 1 overflows nowhere

value_finite : (x : Float) (s : Bool) (a c : ℕ) → HasValue x s a c → finite x ≡ true
value_finite nan s a c h = absurd h
value_finite (inf t) s a c h = absurd h
value_finite (fin t m e) s a c h = refl

module _ (q k : ℕ) where
  abbrev written : Bool → Float
  written s = odd (suc (prec binary64)) s q k (low binary64)

  written_finite : (s : Bool) → finite (written s) ≡ true
  written_finite s = value_finite (written s) s (q * 2 ^ k) one (odd_sign (suc (prec binary64)) s q k (low binary64))

  past_infinity : (y : Float) → finite y ≡ true → T (le (inf false) y) → ⊥
  unfolding le
  past_infinity nan p h = h
  past_infinity (inf t) p h = never p
  past_infinity (fin t n d) p h = h

  -- the sign has no part in it
  units_finite : (s : Bool) (y : Float) → finite y ≡ true → T (le (units binary64 false q k) y) → finite (units binary64 s q k) ≡ true
  unfolding units
  units_finite s y p = go (ltb (q * 2 ^ k) (2 ^ (low binary64 + suc (emax binary64))))
    where
      go : (b : Bool) → T (le (cond b (written false) (inf false)) y) → finite (cond b (written s) (inf s)) ≡ true
      go true h = written_finite s
      go false h = absurd (past_infinity y p h)

round_under : (s : Bool) (a c : ℕ) (y : Float) → finite y ≡ true → T (le (round binary64 false a c) y) → finite (round binary64 s a c) ≡ true
round_under s a c y p h =
    let n = a * one in
    subst (λ (z : Float). finite z ≡ true) (sym (round_is binary64 s a c))
    (units_finite (kept 53 n c) (drop 53 n c) s y p (subst (λ (z : Float). T (le z y)) (round_is binary64 false a c) h))

units_below : (s : Bool) (m : ℕ) (e : ℤ) → T (fits binary64 (fin s m e)) → units_of (fin s m e) < 2 ^ suc (emax binary64) * one
unfolding fits units_of
units_below s zero e h = rw (zero-mul (up e), zero-mul one, zero-div (down e)) (mul-pos (pow_pos (suc (emax binary64))) (pow_pos (low binary64)))
units_below s (suc m) e h = units_in m e h

-- a double is itself, rounded
itself : (s : Bool) (m : ℕ) (e : ℤ) → T (fits binary64 (fin s m e)) → finite (round binary64 false (units_of (fin s m e)) one) ≡ true
itself s m e f =
    let d = (shape s m e f).0 in
    let x = units_of (fin s m e) in
    value_finite (round binary64 false x one) false x one
    (round_exact binary64 false x one d.digits d.places (pow_pos (low binary64)) d.few
    (subst (λ (z : ℕ). z < 2 ^ (low binary64 + suc (emax binary64))) d.is
    (subst (λ (z : ℕ). x < z) (mul_comm (2 ^ suc (emax binary64)) one ∙ sym (pow-add 2 (low binary64) (suc (emax binary64)))) (units_below s m e f)))
    (ap (λ (z : ℕ). z * one) d.is))

pub over_finite : (x w : Float) → T (fits binary64 x) → finite x ≡ true → T (positive w) → den w ≤ num w → finite (x ⊘ w) ≡ true
over_finite x nan f p q h = absurd q
over_finite x (inf t) f p q h = absurd q
over_finite x (fin true n d) f p q h = absurd q
over_finite nan (fin false n d) f p q h = absurd (never p)
over_finite (inf s) (fin false n d) f p q h = absurd (never p)
over_finite (fin s m e) (fin false n d) f p q h =
    let N = ltb→lt 0 n q in
    let x = units_of (fin s m e) in
    subst (λ (z : Float). finite z ≡ true) (sym (over_is n d N s m e))
    (round_under s (m * up e * down d) (n * up d * down e) (round binary64 false x one) (itself s m e f)
    (round_mono binary64 (m * up e * down d) (n * up d * down e) x one (n_pos n d N e) (pow_pos (low binary64))
    (smaller x (m * up e) (down e) (down d) (n * up d) one (units_exact s m e f) h)))
  where
    smaller : (x a k d n l : ℕ) → x * k ≡ a * l → d ≤ n → a * d * l ≤ x * (n * k)
    smaller x a k d n l e h = omega (arith, ap (λ (z : ℕ). z * n) e, mul-le-mul_right (a * l) h)

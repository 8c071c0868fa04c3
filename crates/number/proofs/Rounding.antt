-- How far rounding errs. A unit is the smallest double above zero. A fraction as a double is off by at most its 2^53rd part and half
-- a unit. Assumes nothing.
use Rattle.std.proofs.Common.{◌≡◌, ℕ, suc, ◌+◌, ◌*◌, ◌/◌, ◌%◌, ◌^◌, ◌<◌, ◌≤◌, Bool, true, false, cond, not, T, ltb, sym, ap, ◌∙◌, subst, inl, inr, true≢false, mul-le-mul_right, mod-lt}
use Rattle.std.proofs.Common.{mul_assoc, suc-mul, mul_comm, eq-zero-or-pos, mul-pos, div-add-mod', le-div_iff_mul-le, mul-one, arith, eqb→eq, leb→le, pow_pos, pow-add}
use Prim.Native.Nat.{compare, Ordering}
use lib.Dec.{is_le, compare_is_eq, nleb→lt}
use lib.Ieee.{Float, inf, Format, binary64, prec, emax, low, nearest, odd, units, round}
use lib.Ieee.Digits.{size_reaches}
use lib.Ieee.Fits.{nearest-le, round_is}
use lib.Ieee.Exact.{HasValue, odd_sign}
use lib.Ieee.Nearest.{closest, nearest-ge}
use lib.Ieee.Order.{drop, kept}
use lib.Ieee.Scale.{grid, finite}

-- z, rounded, is at most n and its 2^53rd part and half of c; and at least n less that
abbrev pub Most : ℕ → ℕ → ℕ → Type 0
Most z n c = 2 ^ 53 * z ≤ 2 ^ 53 * n + (n + 2 ^ 52 * c)

abbrev pub Least : ℕ → ℕ → ℕ → Type 0
Least z n c = 2 ^ 53 * n ≤ 2 ^ 53 * z + (n + 2 ^ 52 * c)

abbrev pub Rounds : ℕ → ℕ → ℕ → Type 0
Rounds z n c = Most z n c × Least z n c

-- ---- the nearest whole number to n / u, times u: off by at most half of u

module _ (n u : ℕ) (U : 0 < u) where
  abbrev Near : ℕ → Type 0
  Near z = (2 * z ≤ 2 * n + u) × (2 * n ≤ 2 * z + u)

  near : Near (closest n u * u)
  near = go (compare (n % u * 2) u) (leb→le (n % u * 2) u) (nleb→lt (n % u * 2) u) (eqb→eq (n % u * 2) u)
    where
      is : n / u * u + n % u ≡ n
      is = div-add-mod' n u

      go : (o : Ordering) → (T (is_le o) → n % u * 2 ≤ u) → (T (not (is_le o)) → u < n % u * 2) → (T (compare_is_eq o) → n % u * 2 ≡ u) → Near (nearest (n / u) o * u)
      go Ordering.lt l g e = omega (arith, is, l tt)
      go Ordering.eq l g e =
          let from : n / u * u ≤ nearest (n / u) Ordering.eq * u = mul-le-mul_right u (nearest-ge (n / u) Ordering.eq) in
          let upto : nearest (n / u) Ordering.eq * u ≤ suc (n / u) * u = mul-le-mul_right u (nearest-le (n / u) Ordering.eq) in
          omega (arith, is, e tt, from, upto, suc-mul (n / u) u)
      go Ordering.gt l g e = omega (arith, is, g tt, mod-lt n U, suc-mul (n / u) u)

-- ---- n / c to 53 digits, times c

module _ (n c : ℕ) (C : 0 < c) where
  abbrev k : ℕ
  k = drop 53 n c

  abbrev u : ℕ
  u = c * 2 ^ k

  -- the last place that is kept
  place : 2 ^ 52 * u ≤ n + 2 ^ 52 * c
  place = elim (eq-zero-or-pos k) [
    | inl z ↦ subst (λ (x : ℕ). 2 ^ 52 * (c * 2 ^ x) ≤ n + 2 ^ 52 * c) (sym z) (subst (λ (x : ℕ). 2 ^ 52 * x ≤ n + 2 ^ 52 * c) (sym (mul-one c)) (omega arith))
    | inr l ↦
        let reaches : 2 ^ (52 + k) ≤ n / c = size_reaches (n / c) (52 + k) (omega arith) in
        let whole : 2 ^ (52 + k) * c ≤ n = (le-div_iff_mul-le C).0 reaches in
        let same : 2 ^ (52 + k) * c ≡ 2 ^ 52 * (c * 2 ^ k) = ap (λ (x : ℕ). x * c) (pow-add 2 52 k) ∙ mul_assoc (2 ^ 52) (2 ^ k) c ∙ ap (λ (x : ℕ). 2 ^ 52 * x) (mul_comm (2 ^ k) c) in
        omega (arith, whole, same)
  ]

  off : (z v : ℕ) → 2 ^ 52 * v ≤ n + 2 ^ 52 * c → (2 * z ≤ 2 * n + v) × (2 * n ≤ 2 * z + v) → Rounds z n c
  off z v h e = omega (arith, h, e)

  rounded : Rounds (kept 53 n c * 2 ^ k * c) n c
  rounded =
      let same : kept 53 n c * u ≡ kept 53 n c * 2 ^ k * c = ap (λ (x : ℕ). kept 53 n c * x) (mul_comm c (2 ^ k)) ∙ sym (mul_assoc (kept 53 n c) (2 ^ k) c) in
      subst (λ (z : ℕ). Rounds z n c) same (off (kept 53 n c * u) u place (near n u (mul-pos C (pow_pos k))))

-- ---- a fraction a / c as a double, which is finite

units_has : (f : Format) (s : Bool) (q k : ℕ) → finite (units f s q k) ≡ true → HasValue (units f s q k) s (q * 2 ^ k) (2 ^ low f)
unfolding units
units_has f s q k = go (ltb (q * 2 ^ k) (2 ^ (low f + suc (emax f))))
  where
    go : (b : Bool) → finite (cond b (odd (suc (prec f)) s q k (low f)) (inf s)) ≡ true
        → HasValue (cond b (odd (suc (prec f)) s q k (low f)) (inf s)) s (q * 2 ^ k) (2 ^ low f)
    go true e = odd_sign (suc (prec f)) s q k (low f)
    go false e = absurd (true≢false (sym e))

pub round_has : (s : Bool) (a c : ℕ) → finite (round binary64 s a c) ≡ true → HasValue (round binary64 s a c) s (grid binary64 a c) (2 ^ low binary64)
round_has s a c e =
    let is = round_is binary64 s a c in
    let n = a * 2 ^ low binary64 in
    subst (λ (z : Float). HasValue z s (grid binary64 a c) (2 ^ low binary64)) (sym is)
    (units_has binary64 s (kept 53 n c) (drop 53 n c) (subst (λ (z : Float). finite z ≡ true) is e))

-- in units, times c
pub round_off : (a c : ℕ) → 0 < c → Rounds (grid binary64 a c * c) (a * 2 ^ low binary64) c
round_off a c C = rounded (a * 2 ^ low binary64) c C

-- From the test of an entry to powers, over any exponent N and unit T: nothing here computes a power. Assumes nothing.
use mathlib.Core.Path.{◌≡◌, refl, sym, ap, ◌∙◌}
use Prim.Native.Nat.{ℕ, zero, suc, ◌*◌, ◌^◌, ◌≤◌, ◌<◌}
use native.Mathlib.Nat.{mul_comm, mul_assoc, mul-mul-mul_comm, mul-zero, mul-suc}
use native.Mathlib.Nat.{mul_left_comm, pow-zero, pow-suc, pow-le-pow_left, pow-lt-pow_left}
use native.Mathlib.Nat.{le_trans, lt_of_lt_of_le, mul-le-mul_left, mul-le-mul_right, le_of_mul-le-mul_right, lt_of_mul-lt-mul_right}
use lib.Pow.{pow-add}

ruleset shuffled = (mul_assoc, mul_comm, mul_left_comm)

pub mul_pow : (a b n : ℕ) → (a * b) ^ n ≡ a ^ n * b ^ n
mul_pow a b zero = rw (pow-zero (a * b), pow-zero a, pow-zero b)
mul_pow a b (suc n) = rw (pow-suc (a * b) n, pow-suc a n, pow-suc b n, mul_pow a b n) (mul-mul-mul_comm (a ^ n) (b ^ n) a b)

pow_mul : (a q n : ℕ) → (a ^ q) ^ n ≡ a ^ (q * n)
pow_mul a q zero = rw (pow-zero (a ^ q), mul-zero q, pow-zero a)
pow_mul a q (suc n) = rw (pow-suc (a ^ q) n, mul-suc q n, pow-add a (q * n) q, pow_mul a q n)

-- 10^q · E as a power
abbrev pub scaled_power : ℕ → ℕ → ℕ → ℕ
scaled_power N E q = 10 ^ (q * N) * E ^ N

pub scaled : (N E q : ℕ) → (10 ^ q * E) ^ N ≡ scaled_power N E q
scaled N E q = mul_pow (10 ^ q) E N ∙ ap (λ (z : ℕ). z * E ^ N) (pow_mul 10 q N)

module _ (N T P E q e : ℕ) where
  abbrev X : ℕ
  X = scaled_power N E q

  -- e fits, and its power is next to that of c units
  pub lower : (a b c : ℕ) → 0 < T ^ N → a * (c * T ^ N) ≤ b * e ^ N → e * (10 ^ q * E) ≤ P * T → a * (c * X) ≤ b * P ^ N
  lower a b c pos near fits =
      let power : e ^ N * X ≤ P ^ N * T ^ N = rw (mul_pow e (10 ^ q * E) N, mul_pow P T N, scaled N E q) at (pow-le-pow_left fits N) in
      let left : a * (c * X) * T ^ N ≡ a * (c * T ^ N) * X = simp shuffled refl in
      let mid : b * e ^ N * X ≡ b * (e ^ N * X) = mul_assoc b (e ^ N) X in
      let right : b * (P ^ N * T ^ N) ≡ b * P ^ N * T ^ N = sym (mul_assoc b (P ^ N) (T ^ N)) in
      le_of_mul-le-mul_right {k = T ^ N}
      (rw (left, ← right) (le_trans (mul-le-mul_right X near) (rw mid (mul-le-mul_left b power)))) pos

  -- e does not fit, and its power is at most that of c units
  pub upper : (c : ℕ) → (N ≡ 0 → ⊥) → e ^ N ≤ c * T ^ N → P * T < e * (10 ^ q * E) → P ^ N < c * X
  upper c nz root above =
      let power : P ^ N * T ^ N < e ^ N * X = rw (mul_pow e (10 ^ q * E) N, mul_pow P T N, scaled N E q) at (pow-lt-pow_left {n = N} above nz) in
      let right : c * T ^ N * X ≡ c * X * T ^ N = simp shuffled refl in
      lt_of_mul-lt-mul_right (T ^ N) (rw (← right) (lt_of_lt_of_le power (mul-le-mul_right X root)))

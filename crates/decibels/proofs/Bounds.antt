-- How far D is off: by one hundredth at most, either way (`within_left`, `within_zero`, `within_right`), above by next to nothing (`hardly_above`), and
-- so what it is worth to hold D to a limit (`limit_met`, `limit_kept`). P ^ 1000 and E ^ 1000 stand for a thousand times their logarithms.
-- Assumes nothing.
use mathlib.Core.Path.{◌≡◌, ap, ◌∙◌}
use Prim.Native.Nat.{ℕ, suc, ◌+◌, ◌-◌, ◌*◌, ◌^◌, ◌≤◌, ◌<◌}
use native.Mathlib.Nat.{mul_comm, mul_assoc, pow-zero, pow-suc, one-mul, pow-lt-pow_left, pow-le-pow_right, mul-le-mul_right, one-le-pow}
use native.Mathlib.Decide.{dec_le, dec_lt}
use native.Mathlib.Omega.{arith}
use lib.Dec.{lit<}
use lib.Pow.{pow-add}
use Rattle.decibels.specs.Hundredths.{place_count, chart_unit, entry_power, entry_of, power_of, place_of, hundredths_of}
use Rattle.decibels.proofs.Entries.{some_places, entry_root}
use Rattle.decibels.proofs.Charted.{entry_near}
use Rattle.decibels.proofs.Places.{power_largest, power_next, place_largest, place_next}
use Rattle.decibels.proofs.Powers.{scaled_power, scaled, lower, upper}

some_unit : 0 < chart_unit ^ place_count
unfolding chart_unit
some_unit = one-le-pow place_count (10 ^ 9) (lit< tt)

module _ (P E : ℕ) (some : 1 ≤ E) (below : E ≤ P) where
  abbrev N : ℕ
  N = place_count

  abbrev q : ℕ
  q = power_of P E

  abbrev t : ℕ
  t = 10 ^ q * E

  abbrev k : ℕ
  k = place_of P t

  abbrev D : ℕ
  D = hundredths_of P E

  t_below : t ≤ P
  t_below = (power_largest P E some below).0

  -- the powers put together
  joined : (m : ℕ) → 10 ^ (N * q + m) * E ^ N ≡ 10 ^ m * scaled_power N E q
  joined m = rw (pow-add 10 (N * q) m, mul_comm (10 ^ (N * q)) (10 ^ m), mul_assoc (10 ^ m) (10 ^ (N * q)) (E ^ N), mul_comm N q)

  -- above what is true by a millionth at most, as a power
  pub hardly_above : 999999 * (10 ^ D * E ^ N) ≤ 1000000 * P ^ N
  unfolding hundredths_of entry_power
  hardly_above =
      let f = place_largest P t t_below in
      rw (joined k) (lower N chart_unit P E q (entry_of k) 999999 1000000 (10 ^ k) some_unit (entry_near k f.0) f.1)

  -- below it by less than one
  pub within_right : P ^ N < 10 ^ (D + 1) * E ^ N
  unfolding hundredths_of entry_power
  within_right = go (dec_lt (k + 1) N)
    where
      e : N * q + k + 1 ≡ N * q + (k + 1)
      e = omega arith

      go : Dec (k + 1 < N) → P ^ N < 10 ^ (N * q + k + 1) * E ^ N
      go (yes short) =
          rw (e, joined (k + 1))
          (upper N chart_unit P E q (entry_of (k + 1)) (10 ^ (k + 1)) (λ z. omega (arith, some_places)) (entry_root (k + 1)) (place_next P t t_below short))
      go (no last) =
          let z : N * q + k + 1 ≡ (q + 1) * N = omega (arith, (place_largest P t t_below).0) in
          let past : P ^ N < (10 ^ (q + 1) * E) ^ N = pow-lt-pow_left {n = N} (power_next P E some below) (λ h. omega (arith, some_places)) in
          rw z (rw (scaled N E (q + 1)) at past)

  -- ---- one hundredth either way
  tenfold : 10 ^ D * E ^ N ≤ 10 * P ^ N
  tenfold = omega (arith, hardly_above)

  pub within_left : 1 ≤ D → 10 ^ (D - 1) * E ^ N ≤ P ^ N
  within_left s =
      let z : D ≡ suc (D - 1) = omega arith in
      let p : 10 ^ D ≡ 10 ^ (D - 1) * 10 = ap (λ (m : ℕ). 10 ^ m) z ∙ pow-suc 10 (D - 1) in
      omega (arith, tenfold, ap (λ (m : ℕ). m * E ^ N) p)

  pub within_zero : D ≡ 0 → E ^ N ≤ 10 * P ^ N
  within_zero z = rw (z, pow-zero 10, one-mul) at tenfold

  -- ---- a limit of L hundredths: who truly has it meets it, and who meets it lacks next to nothing
  pub limit_met : (L : ℕ) → 10 ^ L * E ^ N ≤ P ^ N → L ≤ D
  limit_met L has = go (dec_le L D)
    where
      go : Dec (L ≤ D) → L ≤ D
      go (yes m) = m
      go (no m) =
          let past : 10 ^ (D + 1) * E ^ N ≤ 10 ^ L * E ^ N = mul-le-mul_right (E ^ N) (pow-le-pow_right (omega arith) (omega arith)) in
          absurd (omega (arith, within_right, has))

  pub limit_kept : (L : ℕ) → L ≤ D → 999999 * (10 ^ L * E ^ N) ≤ 1000000 * P ^ N
  limit_kept L met =
      let low : 10 ^ L * E ^ N ≤ 10 ^ D * E ^ N = mul-le-mul_right (E ^ N) (pow-le-pow_right (omega arith) met) in
      omega (arith, hardly_above)

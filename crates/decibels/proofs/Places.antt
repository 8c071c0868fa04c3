-- q and k are the largest of their kind, and nothing else is (`power_largest`, `place_largest`). Assumes nothing.
use mathlib.Core.Path.{◌≡◌}
use mathlib.Core.Bool.{Bool}
use Prim.Native.Nat.{ℕ, zero, suc, ◌+◌, ◌-◌, ◌*◌, ◌^◌, ◌≤◌, ◌<◌}
use native.Mathlib.Nat.{le_trans, pow-zero, pow-suc, pow-le-pow_right, mul-le-mul, mul-le-mul_left, mul-le-mul_right, mul_comm, one-mul}
use native.Mathlib.Decide.{dec_lt}
use native.Mathlib.Omega.{arith}
use borrow.Author.Tests.{le-leb, lt-leb, leb-true}
use lib.Dec.{leb}
use Rattle.decibels.specs.Hundredths.{place_count, chart_unit, entry_of, power_of, place_of, hundredths_of}
use Rattle.decibels.proofs.Largest.{largest_le, largest_most, largest_holds, largest_is}
use Rattle.decibels.proofs.Entries.{some_places, entries_rise, entry_first}

-- a number is below ten to it
below_power : (m : ℕ) → m < 10 ^ m
below_power zero = rw pow-zero (omega arith)
below_power (suc m) = rw pow-suc (omega (arith, below_power m))

-- ---- q
module _ (P E : ℕ) (some : 1 ≤ E) where
  power_rises : (j m : ℕ) → j ≤ m → 10 ^ j * E ≤ 10 ^ m * E
  power_rises j m l = mul-le-mul_right E (pow-le-pow_right (omega arith) l)

  -- none past P comes into question
  power_low : (m : ℕ) → 10 ^ m * E ≤ P → m ≤ P
  power_low m l = let s : 10 ^ m * 1 ≤ 10 ^ m * E = mul-le-mul_left (10 ^ m) some in omega (arith, below_power m)

  abbrev PowerLargest : ℕ → Type 0
  PowerLargest q = (10 ^ q * E ≤ P) × ((m : ℕ) → 10 ^ m * E ≤ P → m ≤ q)

  pub power_largest : E ≤ P → PowerLargest (power_of P E)
  unfolding power_of
  power_largest l = (
    leb-true _ _ (largest_holds (λ (q : ℕ). leb (10 ^ q * E) P) P (le-leb (10 ^ 0 * E) P (rw (pow-zero 10, one-mul) l))),
    λ (m : ℕ) (fits : 10 ^ m * E ≤ P). largest_most (λ (q : ℕ). leb (10 ^ q * E) P) P m (power_low m fits) (le-leb _ _ fits),
  )

  pub power_next : E ≤ P → P < 10 ^ (power_of P E + 1) * E
  power_next l = go (dec_lt P (10 ^ (power_of P E + 1) * E))
    where
      go : Dec (P < 10 ^ (power_of P E + 1) * E) → P < 10 ^ (power_of P E + 1) * E
      go (yes m) = m
      go (no m) = absurd (omega (arith, (power_largest l).1 (power_of P E + 1) (omega arith)))

  pub power_is : (q : ℕ) → 10 ^ q * E ≤ P → P < 10 ^ (q + 1) * E → power_of P E ≡ q
  unfolding power_of
  power_is q fits next =
      largest_is (λ (m : ℕ). leb (10 ^ m * E) P) (λ j m l h. le-leb _ _ (le_trans (power_rises j m l) (leb-true _ _ h)))
      P q (power_low q fits) (le-leb _ _ fits) (λ past. lt-leb _ _ next)

-- ---- k
module _ (P t : ℕ) where
  abbrev Fits : ℕ → Type 0
  Fits k = entry_of k * t ≤ P * chart_unit

  abbrev PlaceLargest : ℕ → Type 0
  PlaceLargest k = (k < place_count) × Fits k × ((m : ℕ) → m < place_count → Fits m → m ≤ k)

  first_fits : t ≤ P → Fits 0
  first_fits l = rw (mul_comm (entry_of 0) t) (mul-le-mul l entry_first)

  pub place_largest : t ≤ P → PlaceLargest (place_of P t)
  unfolding place_of
  place_largest l =
      let f : ℕ → Bool = λ (k : ℕ). leb (entry_of k * t) (P * chart_unit) in (
        omega (arith, largest_le f (place_count - 1), some_places),
        leb-true _ _ (largest_holds f (place_count - 1) (le-leb _ _ (first_fits l))),
        λ (m : ℕ) (short : m < place_count) (fits : Fits m). largest_most f (place_count - 1) m (omega arith) (le-leb _ _ fits),
      )

  pub place_is : (k : ℕ) → k < place_count → Fits k → (k + 1 < place_count → P * chart_unit < entry_of (k + 1) * t) → place_of P t ≡ k
  unfolding place_of
  place_is k short fits next =
      largest_is (λ (m : ℕ). leb (entry_of m * t) (P * chart_unit))
      (λ j m l h. le-leb _ _ (le_trans (mul-le-mul_right t (entries_rise l)) (leb-true _ _ h)))
      (place_count - 1) k (omega arith) (le-leb _ _ fits) (λ past. lt-leb _ _ (next (omega arith)))

  -- an entry past the last that fits
  pub place_next : t ≤ P → place_of P t + 1 < place_count → P * chart_unit < entry_of (place_of P t + 1) * t
  place_next l short = go (dec_lt (P * chart_unit) (entry_of (place_of P t + 1) * t))
    where
      go : Dec (P * chart_unit < entry_of (place_of P t + 1) * t) → P * chart_unit < entry_of (place_of P t + 1) * t
      go (yes m) = m
      go (no m) = absurd (omega (arith, (place_largest l).2 (place_of P t + 1) short (omega arith)))

-- ---- D, from a q and a k that are so
pub hundredths_is : (P E q k : ℕ) → 1 ≤ E → 10 ^ q * E ≤ P → P < 10 ^ (q + 1) * E
    → k < place_count → entry_of k * (10 ^ q * E) ≤ P * chart_unit → (k + 1 < place_count → P * chart_unit < entry_of (k + 1) * (10 ^ q * E))
    → hundredths_of P E ≡ place_count * q + k
unfolding hundredths_of
hundredths_is P E q k some fits next short within beyond =
    rw (power_is P E some q fits next, place_is P (10 ^ q * E) k short within beyond)

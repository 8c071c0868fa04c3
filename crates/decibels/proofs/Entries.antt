-- The entries as they are defined: each is a root rounded down, the first is a unit, and they rise. Assumes nothing.
use mathlib.Core.Path.{◌≡◌}
use Prim.Native.Nat.{ℕ, zero, suc, ◌+◌, ◌*◌, ◌^◌, ◌≤◌, ◌<◌}
use native.Mathlib.Nat.{le_trans, pow-zero, pow-suc, pow-le-pow_left, pow-le-pow_right, pow-lt-pow_left, mul-le-mul_right, one-mul, one-le-pow}
use native.Mathlib.Decide.{dec_le}
use native.Mathlib.Omega.{arith}
use borrow.Author.Tests.{le-leb, lt-leb, leb-true}
use lib.Dec.{leb, lit≤}
use Rattle.decibels.specs.Hundredths.{place_count, chart_unit, entry_power, entry_of}
use Rattle.decibels.proofs.Powers.{mul_pow}
use Rattle.decibels.proofs.Largest.{largest_most, largest_holds, largest_is}

-- ---- powers
pub some_places : 1 ≤ place_count
unfolding place_count
some_places = lit≤ tt

-- a root is told by its power
root_le : {a b : ℕ} (n : ℕ) → 1 ≤ n → a ^ n ≤ b ^ n → a ≤ b
root_le {a} {b} n s l = go (dec_le a b)
  where
    go : Dec (a ≤ b) → a ≤ b
    go (yes m) = m
    go (no m) =
        let above : b ^ n < a ^ n = pow-lt-pow_left (omega arith) (λ z. omega arith) in
        absurd (omega arith)

-- and is no larger
le_power : (a n : ℕ) → 1 ≤ n → a ≤ a ^ n
le_power zero n s = omega arith
le_power (suc a) zero s = absurd (omega arith)
le_power (suc a) (suc n) s =
    let l : 1 * suc a ≤ suc a ^ n * suc a = mul-le-mul_right (suc a) (one-le-pow n (suc a) (omega arith)) in
    rw pow-suc (omega arith)

-- ---- the entries
pub power_rises : {j k : ℕ} → j ≤ k → entry_power j ≤ entry_power k
unfolding entry_power
power_rises l = mul-le-mul_right (chart_unit ^ place_count) (pow-le-pow_right (omega arith) l)

no_root : 0 ^ place_count ≤ 0
unfolding place_count
no_root = lit≤ tt

pub entry_root : (k : ℕ) → entry_of k ^ place_count ≤ entry_power k
unfolding entry_of
entry_root k =
    leb-true _ _
    (largest_holds (λ (e : ℕ). leb (e ^ place_count) (entry_power k)) (entry_power k) (le-leb (0 ^ place_count) (entry_power k) (omega (arith, no_root))))

-- what is a root, rounded down or further, is no larger
entry_most : (k e : ℕ) → e ^ place_count ≤ entry_power k → e ≤ entry_of k
unfolding entry_of
entry_most k e l =
    largest_most (λ (x : ℕ). leb (x ^ place_count) (entry_power k)) (entry_power k) e (le_trans (le_power e place_count some_places) l) (le-leb _ _ l)

-- there is no other
pub entry_is : (k e : ℕ) → e ^ place_count ≤ entry_power k → entry_power k < (e + 1) ^ place_count → entry_of k ≡ e
unfolding entry_of
entry_is k e l next =
    largest_is (λ (x : ℕ). leb (x ^ place_count) (entry_power k))
    (λ j m below h. le-leb _ _ (le_trans (pow-le-pow_left below place_count) (leb-true _ _ h)))
    (entry_power k) e (le_trans (le_power e place_count some_places) l) (le-leb _ _ l) (λ past. lt-leb _ _ next)

pub entries_rise : {j k : ℕ} → j ≤ k → entry_of j ≤ entry_of k
entries_rise {j} {k} l = entry_most k (entry_of j) (le_trans (entry_root j) (power_rises l))

-- the first is at most a unit
pub entry_first : entry_of 0 ≤ chart_unit
unfolding entry_power
entry_first = root_le place_count some_places (rw (pow-zero 10, one-mul) at (entry_root 0))

-- and all of the chart are at most ten
pub entry_small : (k : ℕ) → k < place_count → entry_of k ≤ 10 * chart_unit
unfolding entry_power
entry_small k l =
    let whole : 10 ^ k * chart_unit ^ place_count ≤ 10 ^ place_count * chart_unit ^ place_count =
    mul-le-mul_right (chart_unit ^ place_count) (pow-le-pow_right (omega arith) (omega arith)) in
    root_le place_count some_places (rw (mul_pow 10 chart_unit place_count) (le_trans (entry_root k) whole))

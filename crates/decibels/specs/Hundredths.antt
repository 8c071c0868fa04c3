-- SCOPE, "Decibels": PSNR in whole hundredths of a decibel, of the largest error P that so many samples can have, and of their error E.
-- Definitions only.
use Rattle.std.specs.Prelude.{Bool, cond, ℕ, zero, suc, ◌+◌, ◌-◌, ◌*◌, ◌^◌, leb}

-- the largest number up to n of which f is true; 0 where it is true of none
unfoldable pub largest_to : (ℕ → Bool) → ℕ → ℕ
largest_to f zero = 0
largest_to f (suc n) = cond (f (suc n)) (suc n) (largest_to f n)

-- ---- the chart

-- its places: ten decibels have so many hundredths
unfoldable pub place_count : ℕ
place_count = 1000

-- what its entries count
unfoldable pub chart_unit : ℕ
chart_unit = 10 ^ 9

-- the power that entry k is the root of: that of 10 ^ (k / 1000) units is 10 ^ k times a unit's
unfoldable pub entry_power : ℕ → ℕ
entry_power k = 10 ^ k * chart_unit ^ place_count

-- entry k: that root, rounded down. No e past the power has to be looked at, since e ≤ e ^ 1000
unfoldable pub entry_of : ℕ → ℕ
entry_of k = largest_to (λ (e : ℕ). leb (e ^ place_count) (entry_power k)) (entry_power k)

-- ---- the hundredths

-- P: n samples, each as wrong as it can be
unfoldable pub peak_of : ℕ → ℕ → ℕ
peak_of n max = n * (max * max)

-- q, the largest with 10 ^ q × E ≤ P. None past P has to be looked at, since q < 10 ^ q
unfoldable pub power_of : ℕ → ℕ → ℕ
power_of P E = largest_to (λ (q : ℕ). leb (10 ^ q * E) P) P

-- k, the largest place whose entry times t is at most P units; t is 10 ^ q × E
unfoldable pub place_of : ℕ → ℕ → ℕ
place_of P t = largest_to (λ (k : ℕ). leb (entry_of k * t) (P * chart_unit)) (place_count - 1)

-- D
unfoldable pub hundredths_of : ℕ → ℕ → ℕ
hundredths_of P E = place_count * power_of P E + place_of P (10 ^ power_of P E * E)

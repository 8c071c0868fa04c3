-- Room for the numbers that the functions hold: q, P and the products fit. Assumes nothing.
use mathlib.Core.Path.{◌≡◌}
use mathlib.Core.Bool.{true}
use Prim.Native.Nat.{ℕ, ◌*◌, ◌^◌, ◌≤◌, ◌<◌}
use native.Mathlib.Nat.{le_of_lt, lt_of_le_of_lt, mul-le-mul, mul-le-mul_left, pow-le-pow_right}
use native.Mathlib.Decide.{dec_lt}
use native.Mathlib.Omega.{arith}
use lib.Dec.{lit≤, lit<}
use Rattle.plane.specs.Limits.{most_depth}
use Rattle.plane.specs.Plane.{max_of, sample_limit}
use Rattle.psnr.specs.Limits.{count_limit, record_limit}
use Rattle.psnr.specs.Record.{max_suits}
use Rattle.psnr.proofs.Records.{max_says}
use Rattle.decibels.specs.Hundredths.{chart_unit, peak_of}
use Rattle.decibels.specs.Inner.Room.{power_limit, peak_limit}

-- a power of ten with which the error is still at most P
pub power_short : (P E m : ℕ) → 1 ≤ E → 10 ^ m * E ≤ P → P < peak_limit → m < power_limit
unfolding power_limit peak_limit
power_short P E m some fits most = go (dec_lt m 21)
  where
    go : Dec (m < 21) → m < 21
    go (yes l) = l
    go (no l) =
        let a : 10 ^ 21 ≤ 10 ^ m = pow-le-pow_right (omega arith) {i = 21} {j = m} (omega arith) in
        let b : 10 ^ m * 1 ≤ 10 ^ m * E = mul-le-mul_left (10 ^ m) some in
        absurd (omega arith)

-- the largest P of a record or a total: said of the limits, whatever they are
peaks_fit : record_limit * count_limit * (sample_limit * sample_limit) < peak_limit
unfolding record_limit count_limit most_depth max_of peak_limit
peaks_fit = lit< tt

pub peak_fits : (n max : ℕ) → n ≤ record_limit * count_limit → max_suits max ≡ true → peak_of n max < peak_limit
unfolding peak_of
peak_fits n max few m = lt_of_le_of_lt (mul-le-mul few (mul-le-mul (max_says max m) (max_says max m))) peaks_fit

-- P times an entry, or times ten, in two words
pub ten_small : 10 ≤ 10 * chart_unit
unfolding chart_unit
ten_small = lit≤ tt

pub product_room : {P m : ℕ} → P < peak_limit → m ≤ 10 * chart_unit → P * m < 2 ^ 128
unfolding peak_limit chart_unit
product_room l k = lt_of_le_of_lt (mul-le-mul (le_of_lt l) k) (lit< tt)

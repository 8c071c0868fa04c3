-- Numbers of SCOPE, worked out; that D can be one above what is rounded down (`one_above`); and the largest D (`most_hundredths`). Assumes nothing.
use mathlib.Core.Path.{◌≡◌, refl, ◌∙◌}
use Prim.Native.Nat.{ℕ, ◌+◌, ◌*◌, ◌^◌, ◌≤◌, ◌<◌}
use native.Mathlib.Nat.{le_trans, mul-le-mul_left, mul-le-mul_right}
use native.Mathlib.Omega.{arith}
use lib.Dec.{lit≤, lit<}
use lib.ListN.{get_or}
use Rattle.plane.specs.Limits.{most_depth}
use Rattle.plane.specs.Plane.{max_of, sample_limit}
use Rattle.psnr.specs.Limits.{count_limit, record_limit}
use Rattle.decibels.specs.Hundredths.{place_count, chart_unit, peak_of, hundredths_of}
use Rattle.decibels.specs.Inner.Chart.{part0, part1, part2, part3, part4, part5, part6, part7, part8, part9, chart}
use Rattle.decibels.proofs.Charted.{charted}
use Rattle.decibels.proofs.Places.{hundredths_is}
use Rattle.decibels.proofs.Ratio.{by_ratio}

-- ---- D from the two entries between which it lies
worked : (P E q k a b : ℕ) → 1 ≤ E → 10 ^ q * E ≤ P → P < 10 ^ (q + 1) * E → k + 1 < place_count → get_or chart k 0 ≡ a → get_or chart (k + 1) 0 ≡ b
    → a * (10 ^ q * E) ≤ P * chart_unit → P * chart_unit < b * (10 ^ q * E) → hundredths_of P E ≡ place_count * q + k
worked P E q k a b some fits next short this that within beyond =
    let this_is = charted k (omega arith) ∙ this in
    let that_is = charted (k + 1) short ∙ that in
    hundredths_is P E q k some fits next (omega arith) (rw this_is within) (λ l. rw that_is beyond)

-- an error of 25 in 3 samples up to 255
pub three_samples : hundredths_of (peak_of 3 255) 25 ≡ 3892
unfolding peak_of place_count chart_unit chart part0 part1 part2 part3 part4 part5 part6 part7 part8 part9
three_samples = worked 195075 25 3 892 7798301105 7816278045 (lit≤ tt) (lit≤ tt) (lit< tt) (lit< tt) refl refl (lit≤ tt) (lit< tt)

-- all that they can have
pub all_wrong : hundredths_of (peak_of 3 255) 195075 ≡ 0
unfolding peak_of place_count chart_unit chart part0 part1 part2 part3 part4 part5 part6 part7 part8 part9
all_wrong = worked 195075 195075 0 0 1000000000 1002305238 (lit≤ tt) (lit≤ tt) (lit< tt) (lit< tt) refl refl (lit≤ tt) (lit< tt)

-- ---- P / E can be less than 10 ^ (D / 1000): D is not always rounded down
pub one_above : (hundredths_of (peak_of 54623 4095) 325000000000 ≡ 450) × (peak_of 54623 4095 ^ 1000 < 10 ^ 450 * 325000000000 ^ 1000)
unfolding peak_of place_count chart_unit chart part0 part1 part2 part3 part4 part5 part6 part7 part8 part9
one_above = (
  worked 915974452575 325000000000 0 450 2818382931 2824879974 (lit≤ tt) (lit≤ tt) (lit< tt) (lit< tt) refl refl (lit≤ tt) (lit< tt),
  lit< tt,
)

-- ---- the largest
abbrev most_peak : ℕ
most_peak = peak_of (record_limit * count_limit) sample_limit

most_worked : hundredths_of most_peak 1 ≡ 20469
unfolding peak_of record_limit count_limit most_depth max_of place_count chart_unit chart part0 part1 part2 part3 part4 part5 part6 part7 part8 part9
most_worked = worked most_peak 1 20 469 2944421633 2951209226 (lit≤ tt) (lit≤ tt) (lit< tt) (lit< tt) refl refl (lit≤ tt) (lit< tt)

pub most_hundredths : (P E : ℕ) → 1 ≤ E → E ≤ P → P ≤ most_peak → hundredths_of P E ≤ 20469
most_hundredths P E some below most =
    let ratio : P * 1 ≤ most_peak * E = le_trans (mul-le-mul_right 1 most) (mul-le-mul_left most_peak some) in
    rw most_worked at (by_ratio most_peak 1 P E (omega arith) (omega arith) some below ratio)

-- `number::near::digits_of` meets its contract. Assumes nothing.
use Rattle.std.proofs.Common.{◌≡◌, ℕ, true, not, T, arith}
use lib.Ieee.{Float, nan, inf, fin, lt, is_nan}
use Rattle.number.proofs.near.digits_of.Goals as goal

-- what is less than something is a number
is_number : (x y : Float) → lt x y ≡ true → T (not (is_nan x))
unfolding lt is_nan
is_number nan y e = let z : ◌≡◌ {A = ℕ} 0 1 = cc in absurd (omega arith)
is_number (inf s) y e = tt
is_number (fin s m k) y e = tt

pub float_to_bits-result : goal.float_to_bits-result
float_to_bits-result c = is_number _ _ c.if-s-2.true

-- SCOPE, "HVS, SSIM and scales", root: +0 gives +0; a positive finite x gives the double nearest the exact root, compared as squared whole numbers.
-- `proofs/Nearest.antt` shows that no other double is nearer and that no tie can occur. Definitions only.
use Rattle.std.specs.Prelude.{ℕ, zero, suc, ◌+◌, ◌-◌, ◌*◌, ◌/◌, ◌^◌, Bool, true, false, cond, ◌&&◌, pos, nat_le, nat_lt, Float, Result, Ok, Err}
use Rattle.std.specs.Float.{nan, inf, fin, binary64}
use Rattle.std.specs.Float.Ieee.{up, down, low, size, units}
use Rattle.refusal.specs.declared.Refusal.{Refusal}
use Rattle.refusal.specs.declared.Refusal.TheVariants as no

-- ---- whole numbers

-- s is the whole number nearest the root of n: s - 1/2 < √n < s + 1/2, with the three doubled and squared
unfoldable pub is_nearest : ℕ → ℕ → Bool
is_nearest n s = nat_lt ((2 * s - 1) * (2 * s - 1)) (4 * n) && nat_lt (4 * n) ((2 * s + 1) * (2 * s + 1))

-- s or the next number up: whichever is the last whose square is at most n
unfoldable pub grown : ℕ → ℕ → ℕ
grown n s = cond (nat_le ((s + 1) * (s + 1)) n) (s + 1) s

-- the last number of d binary digits whose square is at most n: the digits of n / 4's, and one more
unfoldable pub whole_root : ℕ → ℕ → ℕ
unfolding grown
whole_root zero n = 0
whole_root (suc d) n = grown n (2 * whole_root d (n / 4))

-- s or the next number up: whichever is nearer the root of n, which lies between them
unfoldable pub rounded : ℕ → ℕ → ℕ
rounded n s = cond (nat_lt (4 * n) ((2 * s + 1) * (2 * s + 1))) s (s + 1)

-- the whole number nearest the root of n, which is below 4 ^ d
unfoldable pub nearest_root : ℕ → ℕ → ℕ
unfolding whole_root rounded
nearest_root d n = rounded n (whole_root d n)

-- ---- doubles

-- a finite double counted in the smallest ones, 2 ^ -1074: always a whole number
unfoldable pub units_of : Float → ℕ
units_of nan = 0
units_of (inf s) = 0
units_of (fin s m e) = m * up e * 2 ^ low binary64 / down e

-- The root of n units, n · 2 ^ -1074, is √n · 2 ^ -537, that is √n · 2 ^ 537 units. n has 2h binary digits, or one less, so √n has h
-- before the point, and √n · 2 ^ (53 - h) has 53, as many as a double keeps. Rounded to a whole number, it counts 2 ^ (h + 537 - 53) units.
unfoldable pub root_of_units : ℕ → Float
unfolding nearest_root size units
root_of_units n = let h = (size n + 1) / 2 in units binary64 false (nearest_root 53 (n * 2 ^ 106 / 2 ^ (2 * h))) (h + 484)

-- the answer for every double: -0 and what is below it, the infinities and not-a-number are refused
unfoldable pub root_of : Float → Result Float Refusal
unfolding root_of_units units_of
root_of nan = Err no.Value
root_of (inf s) = Err no.Value
root_of (fin true m e) = Err no.Value
root_of (fin false zero e) = Ok (fin false 0 (pos 0))
root_of (fin false (suc m) e) = Ok (root_of_units (units_of (fin false (suc m) e)))

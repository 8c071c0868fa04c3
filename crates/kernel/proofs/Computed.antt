-- The test of a kernel as something that computes: who unfolds `computed` unfolds every part of `lawful`. A part more is named here, once. Assumes nothing.
use mathlib.Core.Bool.{Bool}
use mathlib.Core.List.{List}
use Prim.Native.Nat.{ℕ}
use Rattle.plane.specs.Plane.{all_to}
use Rattle.plane.specs.Sums.{sum_to}
use Rattle.kernel.specs.Kernel.{most_taps, lent_total, fixed_total, odd_count, taps_suit, sums_to, mirrored, middled, ended, lawful}

unfoldable pub computed : ℕ → List ℕ → Bool
unfolding lawful odd_count taps_suit sums_to mirrored middled ended most_taps lent_total fixed_total all_to sum_to
computed total ker = lawful total ker

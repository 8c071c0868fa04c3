-- Whether a kernel is lawful can be asked of SSIM itself: of one sample, lent with no scratch, it tells of nothing else. Assumes nothing.
use mathlib.Core.Path.{◌≡◌, refl}
use mathlib.Core.Bool.{Bool, true, false, cond}
use mathlib.Core.List.{List, [], ◌∷◌}
use Prim.Native.Nat.{ℕ}
use native.Mathlib.Omega.{arith}
use lib.ListN.{length}
use Rattle.std.specs.Prelude.{Ok, Err}
use Rattle.refusal.specs.declared.Refusal.TheVariants as no
use Rattle.plane.specs.Limits.{side_limit, stride_limit, least_depth, most_depth}
use Rattle.plane.specs.Plane.{Plane, Planes, plane_of, size_of, planes_of, max_of, all_to}
use Rattle.plane.specs.Tests.{depth_suits, sides_suit, sides_reach, stride_suits, long_enough, none_above, row_suits, samples_suit, size_tests, layout_tests, pair_refusal}
use Rattle.kernel.specs.Kernel.{lent_total, lawful}
use Rattle.ssim.specs.Answer.{ssim_of}
use Rattle.ssim.proofs.Accept.{taps_count, kernel_refuses, scratch_refuses}
use Rattle.ssim.proofs.Powers.{power_reach}

abbrev one : Plane
one = plane_of (0 ∷ []) 1

-- one byte of 0, and the same once more
abbrev pub one_sample : Planes
one_sample = planes_of (size_of false 1 1 8) one one

planes_pass : Ok tt ≡ pair_refusal one_sample 0
unfolding size_tests layout_tests depth_suits sides_suit sides_reach stride_suits long_enough samples_suit row_suits none_above all_to max_of side_limit stride_limit least_depth most_depth
planes_pass = refl

-- 8 where it is lawful, else 7
pub kernel_asked : (ker : List ℕ) → ssim_of one_sample ker [] ≡ Err (cond (lawful lent_total ker) no.Scratch no.Kernel)
kernel_asked ker = go (lawful lent_total ker) refl
  where
    go : (b : Bool) → lawful lent_total ker ≡ b → ssim_of one_sample ker [] ≡ Err (cond b no.Scratch no.Kernel)
    go true ok = rw (← scratch_refuses one_sample ker 0 planes_pass ok (omega (arith, (taps_count ker ok).0, power_reach (length ker))))
    go false bad = rw (← kernel_refuses one_sample ker 0 planes_pass bad)

-- SCOPE, "Slips that look reasonable": SSIM of equal planes is not always 1. One sample of 0 at depth 1, compared with itself under
-- the kernel 85 86 85, gives a pair one step below it. Assumes nothing.
use mathlib.Core.Path.{◌≡◌, refl}
use mathlib.Core.Bool.{false}
use mathlib.Core.List.{[], ◌∷◌}
use lib.Ieee.{binary64, of_bits, of_int, add, sub, mul, div}
use Rattle.std.specs.Prelude.{Ok}
use Rattle.number.specs.Steps.{fold_to}
use Rattle.plane.specs.Plane.{Plane, plane_of, size_of, planes_of, max_of}
use Rattle.plane.specs.Sums.{sum_to}
use Rattle.window.specs.Moments.{clipped, moment_at}
use Rattle.ssim.specs.Score.{with_centre, totals_of}
use Rattle.ssim.specs.Answer.{ssim_score}

abbrev one : Plane
one = plane_of (0 ∷ []) 1

pub equal_planes :
    ssim_score (planes_of (size_of false 1 1 1) one one) (85 ∷ 86 ∷ 85 ∷ [])
    ≡ Ok (record { ssim = of_bits binary64 0x3FEF_FFFF_FFFF_FFFF; cs = of_bits binary64 0x3FEF_FFFF_FFFF_FFFF })
unfolding with_centre totals_of fold_to max_of moment_at sum_to clipped of_bits of_int add sub mul div
equal_planes = refl

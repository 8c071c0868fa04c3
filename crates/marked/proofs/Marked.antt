-- Every marked number of SCOPE holds, as one statement over one list: both sides are worked out. Assumes nothing.
use mathlib.Core.Path.{refl}
use lib.Ieee.{of_int, round, units, odd, size, climb, span, to_unsigned}
use Rattle.plane.specs.Limits.{side_limit, stride_limit, least_depth, most_depth}
use Rattle.plane.specs.Plane.{max_of, all_to}
use Rattle.plane.specs.Sums.{sum_to}
use Rattle.plane.specs.Tests.{depth_suits, sides_suit, sides_reach, stride_suits, long_enough, none_above, row_suits, samples_suit}
use Rattle.plane.specs.Tests.{size_tests, layout_tests}
use Rattle.psnr.specs.Limits.{most_plane}
use Rattle.psnr.specs.Record.{plane_suits}
use Rattle.psnr.specs.Squared.{square_of, row_error, error_to, squared_error_of}
use Rattle.lifting.specs.Steps.{half, part, steps, steps1, steps2, steps3, steps4, steps5}
use Rattle.dct.specs.Block.{fdct8, fdct8_columns, fdct8x8}
use Rattle.window.specs.Moments.{clipped, moment_at}
use Rattle.number.specs.Steps.{list_to}
use Rattle.marked.specs.Marked.{Agree, marked}

pub marked_agree : Agree marked
unfolding marked side_limit stride_limit least_depth most_depth max_of all_to sum_to depth_suits sides_suit sides_reach stride_suits long_enough
    none_above row_suits samples_suit size_tests layout_tests square_of row_error error_to most_plane plane_suits squared_error_of
    of_int round units odd size climb span to_unsigned
    half part steps steps1 steps2 steps3 steps4 steps5 fdct8 fdct8_columns fdct8x8 clipped moment_at list_to
marked_agree = (refl, (refl, (refl, (refl, (refl, (refl, (refl, (refl, (refl, (refl, (refl, tt)))))))))))

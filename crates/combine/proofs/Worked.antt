-- SCOPE, "Numbers to hold it to": HVS of 1, 2 and 2 with weight 0.5 is 1.5. And "Slips that look reasonable": three equal scores do not always
-- combine to that same double; 0.1 three times, with the weight 0.25 of 420, is one step above it. Assumes nothing.
use mathlib.Core.Path.{◌≡◌, refl}
use lib.Ieee.{Float, binary64, of_bits, add, mul, div, le}
use Rattle.combine.specs.declared.Planar.{Planar}
use Rattle.std.specs.Prelude.{Ok}
use Rattle.combine.specs.Combine.{weighted_sum, whole_weight, visual_score, combinable, combined_hvs_of}

abbrev three : Float → Float → Float → Planar
three y u v = record { y = y; u = u; v = v }

pub one_and_a_half :
    combined_hvs_of (of_bits binary64 0x3FE0_0000_0000_0000) (three (of_bits binary64 0x3FF0_0000_0000_0000) (of_bits binary64 0x4000_0000_0000_0000) (of_bits binary64 0x4000_0000_0000_0000))
    ≡ Ok (of_bits binary64 0x3FF8_0000_0000_0000)
unfolding weighted_sum whole_weight visual_score combinable of_bits add mul div le
one_and_a_half = refl

pub equal_scores :
    combined_hvs_of (of_bits binary64 0x3FD0_0000_0000_0000) (three (of_bits binary64 0x3FB9_9999_9999_999A) (of_bits binary64 0x3FB9_9999_9999_999A) (of_bits binary64 0x3FB9_9999_9999_999A))
    ≡ Ok (of_bits binary64 0x3FB9_9999_9999_999B)
unfolding weighted_sum whole_weight visual_score combinable of_bits add mul div le
equal_scores = refl

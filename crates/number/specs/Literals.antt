-- The doubles that more than one definition names, each by its bits. Definitions only.
use Rattle.std.specs.Prelude.{from_bits, Float}
use Rattle.std.specs.Float.{binary64}

-- 0.0, 1.0 and 2.0
abbrev pub zero_d : Float
zero_d = from_bits binary64 0

abbrev pub one_d : Float
one_d = from_bits binary64 0x3FF0000000000000

abbrev pub two_d : Float
two_d = from_bits binary64 0x4000000000000000

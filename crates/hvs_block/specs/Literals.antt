-- The doubles that the definitions name besides 0.0, each by its bits. Definitions only.
use Rattle.std.specs.Prelude.{Float}
use Rattle.std.specs.Float.{binary64}
use Rattle.std.specs.Float.Ieee.{of_bits}

-- 15.0, 16.0, 32.0, 63.0 and 64.0
abbrev pub fifteen : Float
fifteen = of_bits binary64 0x402E000000000000

abbrev pub sixteen : Float
sixteen = of_bits binary64 0x4030000000000000

abbrev pub thirty_two : Float
thirty_two = of_bits binary64 0x4040000000000000

abbrev pub sixty_three : Float
sixty_three = of_bits binary64 0x404F800000000000

abbrev pub sixty_four : Float
sixty_four = of_bits binary64 0x4050000000000000

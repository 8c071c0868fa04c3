-- SCOPE, "Numbers to hold it to": the root of 2 has the bits 0x3FF6A09E667F3BCD. Assumes nothing.
use Rattle.std.specs.Prelude.{Ok}
use Rattle.std.proofs.Common.{◌≡◌, refl}
use lib.Ieee.{binary64, of_bits}
use Rattle.number.specs.Root.{root_of}

root_of_two : root_of (of_bits binary64 0x4000_0000_0000_0000) ≡ Ok (of_bits binary64 0x3FF6_A09E_667F_3BCD)
unfolding root_of of_bits
root_of_two = refl

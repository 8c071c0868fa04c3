-- `psnr::walk::part16` meets its contract. The loop's invariant: the sum, modulo 2^32, and the bits are those of the samples passed.
-- Assumes nothing.
use Rattle.std.proofs.Common.{◌≡◌, ◌%◌, ◌^◌, ◌≤◌, length}
use Rattle.psnr.specs.Inner.Walk.{squares_in, bits_in}
use Rattle.psnr.proofs.walk.part16.Given as goal

abbrev pub invariant-loop-p : goal.invariant-loop-p
invariant-loop-p l =
    let x = length l.yielded in (x ≤ length l.a) × (l.sum ≡ squares_in l.a l.b x % 2 ^ 32) × (l.bits ≡ bits_in l.a l.b x)

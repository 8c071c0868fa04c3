-- `psnr::walk::sum8` meets its contract. The loop's invariant: the sum is that of the parts passed, and no larger than so many words.
-- Assumes nothing.
use Rattle.std.proofs.Common.{◌≡◌, ◌*◌, ◌≤◌, length}
use Rattle.psnr.specs.Inner.Walk.{word_most, squares_in}
use Rattle.psnr.proofs.walk.sum8.Given as goal

abbrev pub invariant-loop-p : goal.invariant-loop-p
invariant-loop-p l =
    let x = length l.yielded * 128 in (x ≤ length l.a) × (l.sum ≡ squares_in l.a l.b x) × (l.sum ≤ x * word_most)

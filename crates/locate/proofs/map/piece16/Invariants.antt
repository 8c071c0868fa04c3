-- `locate::map::piece16` meets its contract. The loop's invariant: the sum is that of the samples passed, and no larger than so many
-- of the largest squares. Assumes nothing.
use Rattle.std.proofs.Common.{◌≡◌, ◌*◌, ◌≤◌, length}
use Rattle.psnr.specs.Inner.Walk.{word_most, squares_in}
use Rattle.locate.proofs.map.piece16.Given as goal

abbrev pub invariant-loop-p : goal.invariant-loop-p
invariant-loop-p l =
    let n = length l.yielded in (n ≤ length l.a) × (l.sum ≡ squares_in l.a l.b n) × (l.sum ≤ n * (word_most * word_most))

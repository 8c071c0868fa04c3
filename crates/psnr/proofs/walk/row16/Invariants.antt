-- `psnr::walk::row16` meets its contract. The loop's invariant: no sample before place x is above sample_max, the sum is theirs, and what
-- comes from x on is left. Assumes nothing.
use Rattle.std.proofs.Common.{◌≡◌, ◌-◌, true, length, drop}
use Rattle.std.specs.Iterator.Adapters.{zip_first, zip_second}
use Rattle.std.specs.Slice.Iter.{chunks_rest, chunks_size}
use Rattle.psnr.specs.Inner.Walk.{squares_in, pair_suits}
use Rattle.psnr.proofs.walk.row16.Given as goal

abbrev pub invariant-loop-p : goal.invariant-loop-p
invariant-loop-p l =
    let first = zip_first l.p-iterator in
    let second = zip_second l.p-iterator in
    let x = length l.a - length (chunks_rest first) in
    record {
      first_left : chunks_rest first ≡ drop x l.a;
      second_left : chunks_rest second ≡ drop x l.b;
      first_size : chunks_size first ≡ l.size;
      second_size : chunks_size second ≡ l.size;
      total : l.sum ≡ squares_in l.a l.b x;
      suits : pair_suits l.depth l.a l.b x ≡ true;
    }

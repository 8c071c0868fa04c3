-- `psnr::walk::sum8` meets its contract: part by part, and what is left. Assumes nothing.
use Rattle.std.proofs.Common.{◌≡◌, ◌*◌, ◌/◌, ◌<◌, [], length, length-append, arith, rules}
use Rattle.std.proofs.lemmas.Slice.Zip.{zip_turn, zip_end}
use Rattle.psnr.proofs.Parts.{chunk_length, in_chunk, in_rest}
use Rattle.psnr.proofs.walk.sum8.Goals as goal

pub loop-p-preserved : goal.loop-p-preserved
loop-p-preserved c =
    let k = length c.loop-p.yielded in
    let first = c.as_chunks in
    let second = c.as_chunks-2 in
    let turn = zip_turn first.result.0.now second.result.0.now _ c.into_iter-p-iterator.result _ c.next.new.self _ (search rules) (search rules) c.loop-p.yielded_by _ c.in-Some.is c.next.ensures.steps in
    let a : k < length c.args.a.now / 128 = omega (arith, turn.0, first.ensures.front_len) in
    let b : k < length c.args.b.now / 128 = omega (arith, turn.1, second.ensures.front_len) in
    let p = rw first.ensures.front at turn.2 [] in
    let q = rw second.ensures.front at turn.3 [] in
    let long = chunk_length 128 _ k c.args.a.now a (omega arith) p in
    rw length-append (
      omega arith,
      in_chunk c.args.a.now c.args.b.now 128 k a b (omega arith) (omega arith) p q c.loop-p.invariant.1 c.part8-sum.ensures.value,
      omega (arith, c.part8-sum.ensures.upper_bound, long, c.loop-p.invariant.2),
    )

pub returns : goal.returns
returns c =
    let first = c.as_chunks in
    let second = c.as_chunks-2 in
    let count = zip_end first.result.0.now second.result.0.now _ c.into_iter-p-iterator.result _ c.next.new.self _ (search rules) (search rules) c.loop-p.yielded_by c.in-None.is c.next.ensures.steps in
    let k : length c.loop-p.yielded ≡ length c.args.a.now / 128 = omega (arith, count, first.ensures.front_len, second.ensures.front_len) in
    in_rest _ _ (length c.loop-p.yielded * 128) (omega arith) c.requires.0 (rw k first.ensures.back) (rw (k, c.requires.0) second.ensures.back) c.loop-p.invariant.1 c.part8-2.ensures.value

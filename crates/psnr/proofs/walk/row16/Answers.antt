-- `psnr::walk::row16` meets its contract: part by part, and each part is one of both rows. Assumes nothing.
use Rattle.std.proofs.Common.{◌≡◌, ◌-◌, ◌<◌, ◌≤◌, length, sym, ap, ◌∙◌, arith, rules}
use Rattle.std.specs.Iterator.Adapters.{zip_first, zip_second}
use Rattle.std.specs.Slice.Iter.{chunks_rest}
use Rattle.plane.specs.Limits.{side_limit}
use Rattle.plane.specs.Plane.{max_of}
use Rattle.psnr.specs.Inner.Walk.{row_walked}
use Rattle.psnr.proofs.Parts.{in_none, part_some, part_taken, suits_none, suits_small, taken_adds, taken_breaks, taken_suits, found_above, told_ok, told_err, whole_walked}
use Rattle.std.specs.Prelude.{Err}
use Rattle.refusal.specs.declared.Refusal.TheVariants as no
use Rattle.psnr.proofs.walk.row16.Goals as goal

pub loop-p-init-derived : goal.loop-p-init-derived
loop-p-init-derived c =
    let some : 0 < c.part_length-size.result = omega (arith, part_some c.args.depth, c.part_length-size.ensures) in search rules

pub loop-p-init : goal.loop-p-init
loop-p-init c =
    let first : chunks_rest (zip_first c.into_iter-p-iterator.result) ≡ c.args.a.now = search rules in
    let second : chunks_rest (zip_second c.into_iter-p-iterator.result) ≡ c.args.b.now = search rules in
    let none : length c.args.a.now - length (chunks_rest (zip_first c.into_iter-p-iterator.result)) ≡ 0 = omega (arith, ap length first) in
    record {
      first_left = rw none first;
      second_left = rw none second;
      first_size = search rules;
      second_size = search rules;
      total = rw none (sym (in_none _ _));
      suits = rw none (suits_none c.args.depth c.args.a.now c.args.b.now);
    }

pub returns-then-a-size : goal.returns-then-a-size
returns-then-a-size c =
    let found = c.part16.ensures in
    c.told.ensures
    ∙ whole_walked c.args.depth c.args.a.now c.args.b.now c.requires.0 (omega arith) c.requires.2 c.part_length-size.ensures c.sample_max-max.ensures found.bits_value found.sum_value

pub returns-in_err-sum : goal.returns-in_err-sum
unfolding row_walked
returns-in_err-sum c =
    let i = c.loop-p.invariant in
    let s = c.in-Some.ensures.steps in
    let t = part_taken c.args.a.now c.args.b.now c.requires.0 i.first_size i.second_size i.first_left i.second_left s.0.1.0 s.1.1.0 s.0.1.1 s.1.1.1 in
    let f = told_err _ (sym c.in_err-sum.was ∙ c.told-in-loop-p.ensures) in
    let above : max_of c.args.depth < c.part16-in-loop-p.result.bits = omega (arith, f.0, c.sample_max-max.ensures) in
    let same : c.from_residual.result ≡ Err no.Sample = search rules in
    same ∙ found_above _ _ (taken_breaks c.args.depth t c.part16-in-loop-p.ensures.bits_value above)

-- what a part that is not refused is
found : (c : goal.In_ok-sum) → (c.part16-in-loop-p.result.bits ≤ max_of c.args.depth) × (c.in_ok-sum.field-0 ≡ c.part16-in-loop-p.result.sum)
found c = let f = told_ok (sym c.in_ok-sum.was ∙ c.told-in-loop-p.ensures) in (omega (arith, f.0, c.sample_max-max.ensures), f.1)

pub overflow_add-sum : goal.overflow_add-sum
overflow_add-sum c =
    let x = length c.args.a.now - length (chunks_rest (zip_first c.loop-p.p-iterator)) in
    let small : x ≤ side_limit = omega (arith, c.requires.1) in
    let room = suits_small c.args.depth c.args.a.now c.args.b.now x c.requires.2 small c.loop-p.invariant.suits in
    omega (arith, c.loop-p.invariant.total, room, (found c).1)

pub loop-p-preserved : goal.loop-p-preserved
loop-p-preserved c =
    let i = c.loop-p.invariant in
    let s = c.in-Some.ensures.steps in
    let t = part_taken c.args.a.now c.args.b.now c.requires.0 i.first_size i.second_size i.first_left i.second_left s.0.1.0 s.1.1.0 s.0.1.1 s.1.1.1 in
    let f = found c in
    let part = c.part16-in-loop-p.ensures in
    record {
      first_left = t.first_left;
      second_left = t.second_left;
      first_size = s.0.0 ∙ i.first_size;
      second_size = s.1.0 ∙ i.second_size;
      total = taken_adds c.args.depth t part.bits_value c.requires.2 c.part_length-size.ensures f.0 i.total (f.1 ∙ part.sum_value);
      suits = taken_suits c.args.depth t part.bits_value i.suits f.0;
    }

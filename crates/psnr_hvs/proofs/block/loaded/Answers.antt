-- `loaded` fills a block, sample by sample. Assumes nothing.
use borrow.Author.Rules.{rules}
use mathlib.Core.Path.{◌≡◌, ap, ◌∙◌}
use Prim.Native.Nat.{◌<◌, ◌^◌}
use native.Mathlib.Omega.{arith}
use lib.ListN.{length-set}
use lib.IntN.{pos}
use mir.Syntax.{w32}
use mir.Facts.{to_z_pos}
use Rattle.std.proofs.lemmas.List.{length-map}
use Rattle.lifting.proofs.Size.{fits}
use Rattle.psnr_hvs.specs.Score.{block_at}
use Rattle.number.proofs.Lists.{filled_none, filled_more, filled_all}
use Rattle.psnr_hvs.proofs.Blocks.{place_inside, place_small, place_read}
use Rattle.psnr_hvs.proofs.block.loaded.Goals as goal

pub loop-k-init : goal.loop-k-init
loop-k-init g c = (search rules, search rules, filled_none _ _)

pub overflow_mul-row : goal.overflow_mul-row
overflow_mul-row g c = let p = rw length-map at (place_inside c.args.x c.args.y c.loop-k.k c.requires.bounded (omega arith)) in omega (arith, p)

pub overflow_add-row-in-loop-k : goal.overflow_add-row-in-loop-k
overflow_add-row-in-loop-k g c = let p = rw length-map at (place_inside c.args.x c.args.y c.loop-k.k c.requires.bounded (omega arith)) in omega (arith, p)

pub offset_bounds-p-row : goal.offset_bounds-p-row
offset_bounds-p-row g c = let p = rw length-map at (place_inside c.args.x c.args.y c.loop-k.k c.requires.bounded (omega arith)) in search rules

pub bounds-p-row : goal.bounds-p-row
bounds-p-row g c = rw length-map at (place_inside c.args.x c.args.y c.loop-k.k c.requires.bounded (omega arith))

pub overflow_cast-place : goal.overflow_cast-place
overflow_cast-place g c =
    let p = rw length-map at (place_inside c.args.x c.args.y c.loop-k.k c.requires.bounded (omega arith)) in
    let read = place_read g.S.Sample.value c.args.p.samples.now _ c.index-p-row.is c.value.ensures p in
    fits (pos c.value.result) (rw read (place_small c.args.x c.args.y c.loop-k.k c.requires.bounded (omega arith)))

pub loop-k-preserved : goal.loop-k-preserved
loop-k-preserved g c =
    let l = c.loop-k in
    let p = rw length-map at (place_inside c.args.x c.args.y l.k c.requires.bounded (omega arith)) in
    let read = place_read g.S.Sample.value c.args.p.samples.now _ c.index-p-row.is c.value.ensures p in
    let s : c.value.result < 2 ^ 31 = rw read (place_small c.args.x c.args.y l.k c.requires.bounded (omega arith)) in
    (search rules, simp length-set l.invariant.1, filled_more _ _ _ l.invariant.2 (to_z_pos w32 s ∙ ap pos read) (omega arith))

pub returns : goal.returns
unfolding block_at
returns g c = let v = c.loop-k.invariant in
    let e : c.loop-k.k ≡ 64 = omega arith in
    filled_all _ _ 64 (rw e at v.2) (omega arith)

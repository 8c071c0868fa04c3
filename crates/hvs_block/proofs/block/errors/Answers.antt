-- `errors` adds the terms of all places. Assumes nothing.
use borrow.Author.Rules.{rules}
use mathlib.Core.Path.{◌≡◌, sym, ◌∙◌}
use native.Mathlib.Omega.{arith}
use Rattle.lifting.proofs.Size.{read}
use Rattle.dct.proofs.Blocks.{small_at}
use Rattle.dct.specs.Inner.Coefficients.{coefficient_limit}
use Rattle.hvs_block.specs.Block.{errors}
use Rattle.number.proofs.Folds.{fold_none}
use Rattle.hvs_block.proofs.Folds.{by_eights}
use Rattle.hvs_block.proofs.Sizes.{read_coefficient}
use Rattle.hvs_block.proofs.Walks.{term_more}
use Rattle.hvs_block.proofs.block.errors.Goals as goal

pub loop-k-init : goal.loop-k-init
loop-k-init c = (search rules, sym (fold_none _ _))

pub distance-err-requires : goal.distance-err-requires
distance-err-requires c =
    record {
      within = read (small_at coefficient_limit c.args.d1.now c.requires.all_within _);
      within_2 = read (small_at coefficient_limit c.args.d2.now c.requires.all_within_2 _);
    }

pub loop-k-preserved : goal.loop-k-preserved
loop-k-preserved c = let l = c.loop-k in
    let one = c.args.d1.now in
    let two = c.args.d2.now in (
      search rules,
      rw (
        term_more one two c.args.tables.now.csf c.args.tables.now.mask c.args.m c.args.so_far l.k,
        c.term-s.ensures,
        c.distance-err.ensures,
        read_coefficient one c.requires.all_within l.k,
        read_coefficient two c.requires.all_within_2 l.k,
        l.invariant.1,
      ),
    )

pub returns : goal.returns
unfolding errors
returns c = let e : c.loop-k.k ≡ 64 = omega arith in
    rw e at c.loop-k.invariant.1 ∙ by_eights _ _

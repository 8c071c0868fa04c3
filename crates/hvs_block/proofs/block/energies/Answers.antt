-- `energies` adds the weighed squares of two blocks; the first place is left out. Assumes nothing.
use borrow.Author.Rules.{rules}
use mathlib.Core.Path.{◌≡◌, sym, ◌∙◌}
use native.Mathlib.Omega.{arith}
use Rattle.number.specs.Literals.{zero_d}
use Rattle.dct.specs.Inner.Coefficients.{coefficient_limit}
use Rattle.lifting.proofs.Size.{read}
use Rattle.dct.proofs.Blocks.{small_at}
use Rattle.hvs_block.specs.Block.{energy}
use Rattle.hvs_block.proofs.Folds.{by_eights}
use Rattle.hvs_block.proofs.Sizes.{read_coefficient}
use Rattle.hvs_block.proofs.Walks.{energy_first, energy_more}
use Rattle.hvs_block.proofs.block.energies.Goals as goal

pub loop-k-init : goal.loop-k-init
loop-k-init c = (search rules, search rules, sym (energy_first c.args.d1.now c.args.mask.now _), sym (energy_first c.args.d2.now c.args.mask.now _))

pub square-requires : goal.square-requires
square-requires c = read (small_at coefficient_limit c.args.d1.now c.requires.all_within _)

pub square-requires-in-loop-k : goal.square-requires-in-loop-k
square-requires-in-loop-k c = read (small_at coefficient_limit c.args.d2.now c.requires.all_within_2 _)

pub loop-k-preserved : goal.loop-k-preserved
loop-k-preserved c = let l = c.loop-k in
    let one = c.args.d1.now in
    let two = c.args.d2.now in (
      search rules,
      search rules,
      rw (
        energy_more one c.args.mask.now zero_d l.k l.invariant.0,
        c.square.ensures,
        read_coefficient one c.requires.all_within l.k,
        l.invariant.2,
      ),
      rw (
        energy_more two c.args.mask.now zero_d l.k l.invariant.0,
        c.square-in-loop-k.ensures,
        read_coefficient two c.requires.all_within_2 l.k,
        l.invariant.3,
      ),
    )

pub returns : goal.returns
unfolding energy
returns c =
    let e : c.loop-k.k ≡ 64 = omega arith in
    record {
      one_value = rw e at c.loop-k.invariant.2 ∙ by_eights _ _;
      other_value = rw e at c.loop-k.invariant.3 ∙ by_eights _ _;
    }

-- `quarter_sums` adds the samples of a quarter, and their squares. Assumes nothing.
use borrow.Author.Rules.{rules}
use native.Mathlib.Nat.{mul-le-mul}
use lib.IntN.{nat_abs}
use Rattle.hvs_block.proofs.Sizes.{read_sample, sample_read}
use mathlib.Core.Path.{◌≡◌, sym, ap, ◌∙◌}
use Prim.Native.Nat.{◌≤◌, ◌^◌}
use native.Mathlib.Omega.{arith}
use Rattle.plane.proofs.Sums.{sum_none, sum_more}
use Rattle.hvs_block.specs.Inner.Levels.{level_in}
use Rattle.hvs_block.proofs.Levels.{sum_most, squares_most}
use Rattle.hvs_block.proofs.Numbers.{sample_at_lem, sample_small}
use Rattle.hvs_block.proofs.variance.quarter_sums.Goals as goal

pub loop-k-init : goal.loop-k-init
loop-k-init c = (search rules, sym (sum_none _), sym (sum_none _))

pub level-v-requires : goal.level-v-requires
level-v-requires c = sample_read (sample_at_lem c.args.b.now c.requires.samples _)

pub overflow_add-sum : goal.overflow_add-sum
overflow_add-sum c =
    let got : c.level-v.result ≡ level_in c.args.b.now c.args.top c.args.left c.loop-k.k = c.level-v.ensures ∙ ap nat_abs (read_sample (sample_at_lem c.args.b.now c.requires.samples _)) in
    let small : c.level-v.result ≤ 2 ^ 12 = rw got (sample_small (sample_at_lem c.args.b.now c.requires.samples _)) in
    let l = c.loop-k in
    omega (arith, small, l.invariant.1, sum_most c.args.b.now c.requires.samples c.args.top c.args.left l.k)

pub overflow_mul-squares : goal.overflow_mul-squares
overflow_mul-squares c =
    let got : c.level-v.result ≡ level_in c.args.b.now c.args.top c.args.left c.loop-k.k = c.level-v.ensures ∙ ap nat_abs (read_sample (sample_at_lem c.args.b.now c.requires.samples _)) in
    let small : c.level-v.result ≤ 2 ^ 12 = rw got (sample_small (sample_at_lem c.args.b.now c.requires.samples _)) in
    omega (arith, mul-le-mul small small)

pub overflow_add-squares : goal.overflow_add-squares
overflow_add-squares c =
    let got : c.level-v.result ≡ level_in c.args.b.now c.args.top c.args.left c.loop-k.k = c.level-v.ensures ∙ ap nat_abs (read_sample (sample_at_lem c.args.b.now c.requires.samples _)) in
    let small : c.level-v.result ≤ 2 ^ 12 = rw got (sample_small (sample_at_lem c.args.b.now c.requires.samples _)) in
    let l = c.loop-k in
    omega (arith, mul-le-mul small small, l.invariant.2, squares_most c.args.b.now c.requires.samples c.args.top c.args.left l.k)

pub loop-k-preserved : goal.loop-k-preserved
loop-k-preserved c =
    let got : c.level-v.result ≡ level_in c.args.b.now c.args.top c.args.left c.loop-k.k = c.level-v.ensures ∙ ap nat_abs (read_sample (sample_at_lem c.args.b.now c.requires.samples _)) in
    let l = c.loop-k in
    (search rules, rw (sum_more, got, l.invariant.1), rw (sum_more, got, l.invariant.2))

pub returns : goal.returns
returns c =
    let e : c.loop-k.k ≡ 16 = omega arith in
    record {
      sum_value = rw e at c.loop-k.invariant.1;
      squares_value = rw e at c.loop-k.invariant.2;
    }

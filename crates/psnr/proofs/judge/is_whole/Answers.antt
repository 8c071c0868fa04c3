-- `psnr::judge::is_whole` meets its contract. Assumes nothing.
use Rattle.std.proofs.Common.{rules}
use Rattle.std.proofs.Common.{T, sym, subst}
use lib.Ieee.{binary64, neg, of_bits, fits}
use Rattle.psnr.proofs.Whole.{low_end, high_end, above, in_range, cut_small, a_number, exact_number, comes_back}
use Rattle.psnr.proofs.judge.is_whole.Goals as goal

pub returns-then-not-e : goal.returns-then-not-e
unfolding neg of_bits
returns-then-not-e c = sym (low_end _ (search rules))

pub returns-then-not-e-2 : goal.returns-then-not-e-2
unfolding of_bits
returns-then-not-e-2 c =
    let double : T (fits binary64 c.args.e) = subst T (sym c.well_formed.0.1) tt in
    sym (high_end _ double (search rules))

pub truncating_f64_to_u64-n-requires : goal.truncating_f64_to_u64-n-requires
unfolding neg of_bits
truncating_f64_to_u64-n-requires c =
    record {
      lower_bound = above _ (search rules);
      upper_bound = in_range _ (search rules);
    }

pub float_to_bits-result : goal.float_to_bits-result
unfolding of_bits
float_to_bits-result c = a_number _ (search rules)

pub exact-requires : goal.exact-requires
unfolding of_bits
exact-requires c = rw c.truncating_f64_to_u64-n.ensures (cut_small _ (search rules))

pub float_to_bits-result-2 : goal.float_to_bits-result-2
unfolding of_bits
float_to_bits-result-2 c = rw (c.exact.ensures, c.truncating_f64_to_u64-n.ensures) (exact_number _ (cut_small _ (search rules)))

pub returns : goal.returns
unfolding of_bits
returns c =
    let double : T (fits binary64 c.args.e) = subst T (sym c.well_formed.0.1) tt in
    rw (c.exact.ensures, c.truncating_f64_to_u64-n.ensures)
    (comes_back _ double (cut_small _ (search rules)))

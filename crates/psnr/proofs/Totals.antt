-- What the total of a series that is not refused is known to be. Assumes nothing.
use Rattle.std.proofs.Common.{◌≡◌, ◌*◌, ◌≤◌, true, ◌&&◌, leb, List, [], ◌∷◌, length, le_trans, mul-le-mul_right, arith, leb-true}
use Rattle.std.specs.Prelude.{Ok}
use Rattle.refusal.proofs.Chain.{and_left, and_right, passed}
use Rattle.psnr.specs.declared.Record.{Record}
use Rattle.psnr.specs.Limits.{count_limit, record_limit, total_limit}
use Rattle.psnr.specs.Record.{max_suits, joins}
use Rattle.psnr.specs.Series.{first_max, all_join, rising, run_suits, error_total, count_total, series_tests, series_refusal}
use Rattle.psnr.proofs.Records.{joins_suits, suits_some}
use Rattle.psnr.proofs.Fold.{count_bound}
use Rattle.psnr.proofs.Room.{max_suits_lem, errors_most}

pub record Adds (rs : List Record) : Type 0 where
  pub some : 1 ≤ count_total rs
  pub few : count_total rs ≤ record_limit * count_limit
  pub max : max_suits (first_max rs) ≡ true
  pub most : error_total rs ≤ count_total rs * (first_max rs * first_max rs)
  pub whole : error_total rs ≤ total_limit

-- a run that has a first record
first_some : (rs : List Record) → 1 ≤ length rs → all_join (first_max rs) rs ≡ true → (1 ≤ count_total rs) × (max_suits (first_max rs) ≡ true)
unfolding all_join count_total
first_some [] l j = absurd (omega arith)
first_some (r ∷ rs) l j =
    let first = and_left (joins r.sample_max r) (all_join r.sample_max rs) j in
    (omega (arith, suits_some r (joins_suits r.sample_max r first)), max_suits_lem r.sample_max r first)

pub series_adds : (rs : List Record) → series_refusal rs ≡ Ok tt → Adds rs
unfolding run_suits
series_adds rs e =
    let all = passed (series_tests rs) e in
    let a = leb 1 (length rs) in
    let b = leb (length rs) record_limit in
    let joined = and_left (a && b && all_join (first_max rs) rs) (rising rs) all.0 in
    let join = and_right (a && b) (all_join (first_max rs) rs) joined in
    let lengths = and_left (a && b) (all_join (first_max rs) rs) joined in
    let first = first_some rs (leb-true 1 (length rs) (and_left a b lengths)) join in
    let short : length rs ≤ record_limit = leb-true (length rs) record_limit (and_right a b lengths) in
    record {
      some = first.0;
      few = le_trans (count_bound (first_max rs) rs join) (mul-le-mul_right count_limit short);
      max = first.1;
      most = errors_most (first_max rs) rs join;
      whole = leb-true (error_total rs) total_limit all.1.0;
    }

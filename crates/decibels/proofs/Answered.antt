-- What is known of a D that is answered, whoever was asked: a record, a total or a run of records. Assumes nothing.
use mathlib.Core.Path.{◌≡◌, refl}
use mathlib.Core.Bool.{Bool, true, false}
use mathlib.Core.List.{List}
use Prim.Native.Nat.{ℕ, zero, suc, ◌+◌, ◌-◌, ◌*◌, ◌^◌, ◌≤◌, ◌<◌}
use native.Mathlib.Omega.{arith}
use Rattle.std.specs.Prelude.{Ok, Err}
use Rattle.refusal.specs.First.{Verdict, unless_refused}
use Rattle.psnr.specs.declared.Record.{Record}
use Rattle.psnr.specs.declared.Total.{Total}
use Rattle.psnr.specs.Record.{whole_of, record_suits}
use Rattle.psnr.specs.Series.{first_max, error_total, count_total, series_refusal}
use Rattle.psnr.proofs.Totals.{series_adds}
use Rattle.decibels.specs.declared.Decibels.TheVariants.{Hundredths}
use Rattle.decibels.specs.Hundredths.{place_count, peak_of, hundredths_of}
use Rattle.decibels.specs.Answer.{decibels_of, decibels_if, record_decibels, total_suits, total_decibels, series_decibels}
use Rattle.decibels.proofs.Suits.{record_suits_lem, total_suits_lem}
use Rattle.decibels.proofs.Bounds.{hardly_above, within_left, within_zero, within_right, limit_met, limit_kept}

-- d is the D of E under P, and all that holds of it
pub record Answered (P E d : ℕ) : Type 0 where
  pub differs : 1 ≤ E
  pub rule : hundredths_of P E ≡ d
  pub left : 1 ≤ d → 10 ^ (d - 1) * E ^ place_count ≤ P ^ place_count
  pub left_zero : d ≡ 0 → E ^ place_count ≤ 10 * P ^ place_count
  pub right : P ^ place_count < 10 ^ (d + 1) * E ^ place_count
  pub above : 999999 * (10 ^ d * E ^ place_count) ≤ 1000000 * P ^ place_count
  pub met : (L : ℕ) → 10 ^ L * E ^ place_count ≤ P ^ place_count → L ≤ d
  pub kept : (L : ℕ) → L ≤ d → 999999 * (10 ^ L * E ^ place_count) ≤ 1000000 * P ^ place_count

of_rule : (P E d : ℕ) → 1 ≤ E → E ≤ P → hundredths_of P E ≡ d → Answered P E d
of_rule P E d some below e =
    record {
      differs = some;
      rule = e;
      left = rw e at (within_left P E some below);
      left_zero = rw e at (within_zero P E some below);
      right = rw e at (within_right P E some below);
      above = rw e at (hardly_above P E some below);
      met = rw e at (limit_met P E some below);
      kept = rw e at (limit_kept P E some below);
    }

of_error : (P E d : ℕ) → E ≤ P → decibels_of P E ≡ Hundredths d → Answered P E d
of_error P zero d below e = cc
of_error P (suc E) d below e = of_rule P (suc E) d (omega arith) below (cc e)

-- whoever judges by one test
of_test : (b : Bool) (n max E d : ℕ) → (b ≡ true → E ≤ peak_of n max) → decibels_if b n max E ≡ Ok (Hundredths d) → Answered (peak_of n max) E d
of_test true n max E d below e = of_error (peak_of n max) E d (below refl) (cc e)
of_test false n max E d below e = cc

-- ---- the three
series_below : (rs : List Record) → series_refusal rs ≡ Ok tt → error_total rs ≤ peak_of (count_total rs) (first_max rs)
unfolding peak_of
series_below rs z = (series_adds rs z).most

pub record_answered : (r : Record) (d : ℕ) → record_decibels r ≡ Ok (Hundredths d) → Answered (peak_of r.n r.sample_max) (whole_of r.sq_err) d
unfolding record_decibels
record_answered r d e = of_test (record_suits r) r.n r.sample_max (whole_of r.sq_err) d (λ s. (record_suits_lem r s).below) e

pub total_answered : (t : Total) (d : ℕ) → total_decibels t ≡ Ok (Hundredths d) → Answered (peak_of t.n t.sample_max) (whole_of t.sq_err) d
unfolding total_decibels
total_answered t d e = of_test (total_suits t) t.n t.sample_max (whole_of t.sq_err) d (λ s. (total_suits_lem t s).below) e

pub series_answered : (rs : List Record) (d : ℕ) → series_decibels rs ≡ Ok (Hundredths d)
    → Answered (peak_of (count_total rs) (first_max rs)) (error_total rs) d
unfolding series_decibels
series_answered rs d e = go (series_refusal rs) refl e
  where
    go : (k : Verdict) → series_refusal rs ≡ k
        → unless_refused k (Ok (decibels_of (peak_of (count_total rs) (first_max rs)) (error_total rs))) ≡ Ok (Hundredths d)
        → Answered (peak_of (count_total rs) (first_max rs)) (error_total rs) d
    go (Ok _) z e = of_error _ _ d (series_below rs z) (cc e)
    go (Err r) z e = cc

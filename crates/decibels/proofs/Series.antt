-- Decibels of a run are those of what its series answers (`series_summed`), whosever they are (`renumbered_decibels`); a record is a run of one
-- (`run_of_one`). Assumes nothing.
use mathlib.Core.Path.{◌≡◌, refl, sym, ap, ◌∙◌}
use mathlib.Core.Bool.{Bool, true, false, ◌&&◌}
use mathlib.Core.List.{List, [], ◌∷◌, map}
use Prim.Native.Nat.{ℕ, zero, suc, ◌+◌, ◌*◌, ◌≤◌}
use native.Mathlib.Nat.{add-zero, le_trans, le_of_lt}
use native.Mathlib.Omega.{arith}
use borrow.Author.Tests.{le-leb, eq-eqb}
use lib.Dec.{leb}
use Rattle.std.specs.Prelude.{Ok, Err}
use Rattle.refusal.specs.First.{Verdict, unless_refused}
use Rattle.number.specs.Steps.{double}
use Rattle.psnr.specs.declared.Record.{Record}
use Rattle.psnr.specs.declared.Total.{Total}
use Rattle.psnr.specs.Limits.{count_limit, record_limit, total_limit}
use Rattle.psnr.specs.Record.{whole_of, is_whole, error_suits, record_suits, joins}
use Rattle.psnr.specs.Series.{first_max, all_join, rising, run_suits, error_total, count_total, series_refusal, series_total, series_answer, series_of}
use Rattle.psnr.specs.Said.{figures_of}
use Rattle.psnr.proofs.Numbers.{numbered, renumbered}
use Rattle.psnr.proofs.Records.{product_fits, suits_count_suits, suits_max, suits_most}
use Rattle.psnr.proofs.Totals.{Adds, series_adds}
use Rattle.psnr.proofs.Whole.{whole_back}
use Rattle.decibels.specs.Hundredths.{peak_of}
use Rattle.decibels.specs.Answer.{decibels_of, decibels_if, record_decibels, total_suits, total_decibels, summed_decibels, series_decibels}

-- ---- a series that is not refused has a total that suits
module _ (rs : List Record) (a : Adds rs) where
  abbrev its : Total
  its = series_total (error_total rs) (count_total rs) (first_max rs)

  its_error : (is_whole (double (error_total rs)) ≡ true) × (whole_of (double (error_total rs)) ≡ error_total rs)
  unfolding total_limit
  its_error = whole_back (error_total rs) a.whole

  total_suits_lem : total_suits its ≡ true
  unfolding total_suits error_suits peak_of
  total_suits_lem =
      rw (
        le-leb 1 (count_total rs) a.some,
        le-leb (count_total rs) (record_limit * count_limit) a.few,
        a.max,
        its_error.0,
        its_error.1,
        le-leb (error_total rs) (count_total rs * (first_max rs * first_max rs)) a.most,
      )

  its_decibels : total_decibels its ≡ Ok (decibels_of (peak_of (count_total rs) (first_max rs)) (error_total rs))
  unfolding total_decibels
  its_decibels = rw (total_suits_lem, its_error.1)

-- what is made of a total error by its own case
told : (E n max P : ℕ) → total_decibels (series_total E n max) ≡ Ok (decibels_of P E) → summed_decibels (Ok (series_answer E n max)) ≡ Ok (decibels_of P E)
unfolding summed_decibels
told zero n max P e = rw e
told (suc E) n max P e = rw e

-- of what a series answered: a refusal is passed on
pub series_summed : (rs : List Record) → summed_decibels (series_of rs) ≡ series_decibels rs
unfolding series_of series_decibels summed_decibels
series_summed rs = go (series_refusal rs) refl
  where
    go : (k : Verdict) → series_refusal rs ≡ k
        → summed_decibels (unless_refused k (Ok (series_answer (error_total rs) (count_total rs) (first_max rs))))
        ≡ unless_refused k (Ok (decibels_of (peak_of (count_total rs) (first_max rs)) (error_total rs)))
    go (Ok _) e = told (error_total rs) (count_total rs) (first_max rs) _ (its_decibels rs (series_adds rs e))
    go (Err r) e = refl

-- whose the records are does not count, where their numbers are right
pub renumbered_decibels : (xs ys : List Record) → map figures_of xs ≡ map figures_of ys → numbered xs ≡ numbered ys → series_decibels xs ≡ series_decibels ys
renumbered_decibels xs ys figures numbers = sym (series_summed xs) ∙ ap summed_decibels (renumbered xs ys figures numbers) ∙ series_summed ys

-- ---- a record is a run of one
suits_below : (r : Record) → record_suits r ≡ true → whole_of r.sq_err ≤ total_limit
suits_below r s = le_trans (suits_most r s) (le_of_lt (product_fits r.n r.sample_max (suits_count_suits r s) (suits_max r s)))

module _ (r : Record) where
  one_suits : run_suits (r ∷ []) ≡ record_suits r
  unfolding run_suits all_join rising joins record_limit
  one_suits = rw (eq-eqb r.sample_max r.sample_max refl) (go (record_suits r))
    where
      go : (b : Bool) → (((b && true) && true) && true) ≡ b
      go true = refl
      go false = refl

  one_fits : record_suits r ≡ true → leb (whole_of r.sq_err + 0) total_limit ≡ true
  one_fits s = le-leb (whole_of r.sq_err + 0) total_limit (omega (arith, suits_below r s))

  pub run_of_one : series_decibels (r ∷ []) ≡ record_decibels r
  unfolding series_decibels record_decibels error_total count_total
  run_of_one = go (record_suits r) refl
    where
      go : (b : Bool) → record_suits r ≡ b → series_decibels (r ∷ []) ≡ decibels_if b r.n r.sample_max (whole_of r.sq_err)
      go true e = rw (one_suits, e, one_fits e, add-zero (whole_of r.sq_err), add-zero r.n)
      go false e = rw (one_suits, e)

-- What is known of a record and of a total that suit: the error is a whole number, at most P, and P has room. Assumes nothing.
use mathlib.Core.Path.{◌≡◌}
use mathlib.Core.Bool.{Bool, true, ◌&&◌}
use Prim.Native.Nat.{ℕ, ◌*◌, ◌≤◌, ◌<◌}
use native.Mathlib.Nat.{le_trans}
use borrow.Author.Tests.{leb-true}
use lib.Dec.{leb, lit≤}
use Rattle.refusal.proofs.Chain.{and_left, and_right}
use Rattle.psnr.specs.declared.Record.{Record}
use Rattle.psnr.specs.declared.Total.{Total}
use Rattle.psnr.specs.Limits.{count_limit, record_limit}
use Rattle.psnr.specs.Record.{is_whole, whole_of, max_suits, error_suits, record_suits}
use Rattle.psnr.proofs.Records.{suits_count, suits_max, suits_whole, suits_most}
use Rattle.decibels.specs.Hundredths.{peak_of}
use Rattle.decibels.specs.Answer.{total_suits}
use Rattle.decibels.specs.Inner.Room.{peak_limit}
use Rattle.decibels.proofs.Room.{peak_fits}

pub record Suits (error : Bool) (E P : ℕ) : Type 0 where
  pub whole : error ≡ true
  pub below : E ≤ P
  pub fits : P < peak_limit

-- a record is no larger than a total may be
few_records : count_limit ≤ record_limit * count_limit
unfolding record_limit count_limit
few_records = lit≤ tt

pub record_suits_lem : (r : Record) → record_suits r ≡ true → Suits (is_whole r.sq_err) (whole_of r.sq_err) (peak_of r.n r.sample_max)
unfolding peak_of
record_suits_lem r s =
    record {
      whole = suits_whole r s;
      below = suits_most r s;
      fits = peak_fits r.n r.sample_max (le_trans (suits_count r s) few_records) (suits_max r s);
    }

pub total_suits_lem : (t : Total) → total_suits t ≡ true → Suits (is_whole t.sq_err) (whole_of t.sq_err) (peak_of t.n t.sample_max)
unfolding total_suits error_suits
total_suits_lem t s =
    let a = leb 1 t.n in
    let b = leb t.n (record_limit * count_limit) in
    let c = max_suits t.sample_max in
    let error = and_right (a && b && c) _ s in
    let rest = and_left (a && b && c) _ s in
    record {
      whole = and_left (is_whole t.sq_err) _ error;
      below = leb-true _ _ (and_right (is_whole t.sq_err) _ error);
      fits = peak_fits t.n t.sample_max (leb-true _ _ (and_right a b (and_left (a && b) c rest))) (and_right (a && b) c rest);
    }

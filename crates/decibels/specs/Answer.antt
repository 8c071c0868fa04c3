-- SCOPE, "Decibels": what is answered for a record, for a total and for a run of records, and when it is refused. Definitions only.
use Rattle.std.specs.Prelude.{Bool, ◌&&◌, List, [], ◌∷◌, ℕ, zero, suc, ◌*◌, leb, Result, Ok, Err}
use Rattle.refusal.specs.declared.Refusal.{Refusal}
use Rattle.refusal.specs.declared.Refusal.TheVariants as no
use Rattle.refusal.specs.First.{first_broken, unless_refused}
use Rattle.psnr.specs.declared.Record.{Record}
use Rattle.psnr.specs.declared.Total.{Total}
use Rattle.psnr.specs.declared.Summed.{Summed}
use Rattle.psnr.specs.declared.Summed.TheVariants as summed
use Rattle.psnr.specs.Limits.{count_limit, record_limit}
use Rattle.psnr.specs.Record.{whole_of, max_suits, error_suits, record_suits}
use Rattle.psnr.specs.Series.{first_max, error_total, count_total, series_refusal}
use Rattle.decibels.specs.declared.Decibels.{Decibels}
use Rattle.decibels.specs.declared.Decibels.TheVariants.{Hundredths, Identical}
use Rattle.decibels.specs.Hundredths.{peak_of, hundredths_of}

-- of an error under P: an error of 0 is told apart
abbrev pub decibels_of : ℕ → ℕ → Decibels
decibels_of P zero = Identical
decibels_of P (suc e) = Hundredths (hundredths_of P (suc e))

-- of numbers that are judged by one test: 10 where it fails
abbrev pub decibels_if : Bool → ℕ → ℕ → ℕ → Result Decibels Refusal
decibels_if suits n max error = unless_refused (first_broken ((no.Record, suits) ∷ [])) (Ok (decibels_of (peak_of n max) error))

-- ---- a record: 10 where it is bad
unfoldable pub record_decibels : Record → Result Decibels Refusal
record_decibels r = decibels_if (record_suits r) r.n r.sample_max (whole_of r.sq_err)

-- ---- a total: 10 where no series adds up to it
unfoldable pub total_suits : Total → Bool
total_suits t =
    leb 1 t.n && leb t.n (record_limit * count_limit) && max_suits t.sample_max && error_suits (peak_of t.n t.sample_max) t.sq_err

unfoldable pub total_decibels : Total → Result Decibels Refusal
total_decibels t = decibels_if (total_suits t) t.n t.sample_max (whole_of t.sq_err)

-- ---- what a series answered: 10 too where an error of 0 is said to differ, or another to be identical
abbrev pub if_differs : Result Decibels Refusal → Result Decibels Refusal
if_differs (Ok (Hundredths d)) = Ok (Hundredths d)
if_differs (Ok Identical) = Err no.Record
if_differs (Err r) = Err r

abbrev pub if_identical : Result Decibels Refusal → Result Decibels Refusal
if_identical (Ok (Hundredths d)) = Err no.Record
if_identical (Ok Identical) = Ok Identical
if_identical (Err r) = Err r

unfoldable pub summed_decibels : Result Summed Refusal → Result Decibels Refusal
summed_decibels (Ok (summed.Differs t)) = if_differs (total_decibels t)
summed_decibels (Ok (summed.Identical t)) = if_identical (total_decibels t)
summed_decibels (Err r) = Err r

-- ---- a run of records: 10 and 11 as of the series
unfoldable pub series_decibels : List Record → Result Decibels Refusal
series_decibels rs =
    unless_refused (series_refusal rs) (Ok (decibels_of (peak_of (count_total rs) (first_max rs)) (error_total rs)))

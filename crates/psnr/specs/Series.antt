-- SCOPE, "Squared error": the total of a run of records, their errors and counts added under their one max, and its refusals, 10
-- and 11. Definitions only.
use Rattle.std.specs.Prelude.{ℕ, zero, suc, ◌+◌, Bool, true, ◌&&◌, List, [], ◌∷◌, length, nat_le, Result, Ok}
use Rattle.refusal.specs.declared.Refusal.{Refusal}
use Rattle.refusal.specs.declared.Refusal.TheVariants as no
use Rattle.refusal.specs.First.{Verdict, first_broken, unless_refused}
use Rattle.number.specs.Steps.{double}
use Rattle.psnr.specs.declared.Record.{Record}
use Rattle.psnr.specs.declared.Total.{Total}
use Rattle.psnr.specs.declared.Summed.{Summed}
use Rattle.psnr.specs.declared.Summed.TheVariants.{Differs, Identical}
use Rattle.psnr.specs.Limits.{record_limit, total_limit}
use Rattle.psnr.specs.Record.{whole_of, joins, before}

-- the first record's max
abbrev pub first_max : List Record → ℕ
first_max [] = 0
first_max (r ∷ rs) = r.sample_max

-- no record is bad
unfoldable pub all_join : ℕ → List Record → Bool
all_join max [] = true
all_join max (r ∷ rs) = joins max r && all_join max rs

-- each comes after the one before it, by frame and then by plane
unfoldable pub rising : List Record → Bool
rising [] = true
rising (r ∷ []) = true
rising (r ∷ s ∷ rs) = before r s && rising (s ∷ rs)

-- 10: neither none nor too many records, no bad one, and they rise
unfoldable pub run_suits : List Record → Bool
run_suits rs = nat_le 1 (length rs) && nat_le (length rs) record_limit && all_join (first_max rs) rs && rising rs

-- the exact total of the errors
unfoldable pub error_total : List Record → ℕ
error_total [] = 0
error_total (r ∷ rs) = whole_of r.sq_err + error_total rs

-- and of the counts
unfoldable pub count_total : List Record → ℕ
count_total [] = 0
count_total (r ∷ rs) = r.n + count_total rs

-- 10 and 11, in ascending order
abbrev pub series_tests : List Record → List (Refusal × Bool)
series_tests rs = (no.Record, run_suits rs) ∷ (no.Total, nat_le (error_total rs) total_limit) ∷ []

abbrev pub series_refusal : List Record → Verdict
series_refusal rs = first_broken (series_tests rs)

-- the total of so large an error and count, under one max
abbrev pub series_total : ℕ → ℕ → ℕ → Total
series_total error n max = record { sq_err = double error; n = n; sample_max = max }

-- what is told of it: a total error of 0 is told apart
abbrev pub series_answer : ℕ → ℕ → ℕ → Summed
series_answer zero n max = Identical (series_total 0 n max)
series_answer (suc e) n max = Differs (series_total (suc e) n max)

unfoldable pub series_of : List Record → Result Summed Refusal
series_of rs = unless_refused (series_refusal rs) (Ok (series_answer (error_total rs) (count_total rs) (first_max rs)))

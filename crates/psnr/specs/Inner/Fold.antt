-- How a series is worked out, record by record. `proofs/Fold.antt` shows that it gives the answer of Series.antt. A total above its
-- limit is kept as one above the limit, and the walk goes on: a later bad record still gives 10. Definitions only.
use Rattle.std.specs.Prelude.{ℕ, ◌+◌, ◌*◌, min, Bool, true, false, ◌&&◌, ◌||◌, List, fold, ◌==◌, nat_le, nat_lt, Result, Ok, Err}
use Rattle.refusal.specs.declared.Refusal.{Refusal}
use Rattle.refusal.specs.declared.Refusal.TheVariants as no
use Rattle.refusal.specs.First.{unless, unless_refused}
use Rattle.psnr.specs.declared.Record.{Record}
use Rattle.psnr.specs.declared.Tally.{Tally}
use Rattle.psnr.specs.declared.Run.{Run}
use Rattle.psnr.specs.declared.Run.TheVariants.{Empty, Sound, Spoiled}
use Rattle.psnr.specs.declared.Summed.{Summed}
use Rattle.psnr.specs.Limits.{count_limit, record_limit, total_limit}
use Rattle.psnr.specs.Record.{whole_of, joins, earlier}
use Rattle.psnr.specs.Series.{series_answer}

-- ---- the tally of the records so far

-- of none, under the max of the first to come
abbrev pub tally_none : ℕ → Tally
tally_none max = record { records = 0; error = 0; n = 0; sample_max = max; frame = 0; plane = 0 }

-- of one record more
abbrev pub tally_more : Tally → Record → Tally
tally_more t r =
    record {
      records = t.records + 1;
      error = min (t.error + whole_of r.sq_err) (total_limit + 1);
      n = min (t.n + r.n) (record_limit * count_limit);
      sample_max = t.sample_max;
      frame = r.frame;
      plane = r.plane;
    }

-- ---- the run: a record that is bad, out of order or one too many spoils it

-- the first record rises whatever its frame and plane; any other has to come after the last
unfoldable pub rises : Tally → Record → Bool
rises t r = t.records == 0 || earlier t.frame t.plane r.frame r.plane

abbrev pub run_if : Bool → Tally → Run
run_if true t = Sound t
run_if false t = Spoiled

unfoldable pub run_with : Tally → Record → Run
run_with t r = run_if (nat_lt t.records record_limit && joins t.sample_max r && rises t r) (tally_more t r)

abbrev pub run_start : Run
run_start = Empty

unfoldable pub run_step : Run → Record → Run
run_step Empty r = run_with (tally_none r.sample_max) r
run_step (Sound t) r = run_with t r
run_step Spoiled r = Spoiled

abbrev pub run_from : Run → List Record → Run
run_from s rs = fold run_step s rs

unfoldable pub run_finish : Run → Result Summed Refusal
run_finish Empty = Err no.Record
run_finish (Sound t) = unless_refused (unless (nat_le t.error total_limit) no.Total (Ok tt)) (Ok (series_answer t.error t.n t.sample_max))
run_finish Spoiled = Err no.Record

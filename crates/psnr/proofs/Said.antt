-- Both calls say in numbers what has to be said: the refusal's number, or the figure, with 100 beside it exactly where the error is 0.
-- Assumes nothing.
use Rattle.std.proofs.Common.{◌≡◌, ℕ, zero, suc, true, List, map, refl}
use Rattle.std.specs.Prelude.{Ok, Err}
use Rattle.refusal.specs.Numbers.{number_of}
use Rattle.refusal.specs.First.{Verdict, unless_refused}
use Rattle.plane.specs.Plane.{Planes}
use Rattle.plane.specs.Tests.{pair_refusal}
use Rattle.psnr.specs.declared.Record.{Record}
use Rattle.psnr.specs.Record.{plane_suits}
use Rattle.psnr.specs.Squared.{squared_error_score, record_of, error_answer, squared_error_refusal, squared_error_of}
use Rattle.psnr.specs.Series.{first_max, error_total, count_total, series_refusal, series_total, series_answer, series_of}
use Rattle.psnr.specs.Said.{Said, said_differs, said_identical, said_refused, figures_of, error_said, series_said}
use Rattle.psnr.proofs.Accept.{planes_alone}

-- what has to be said, from the refusal, the error and the figure
abbrev pub said_of : {A : Type 0} → Verdict → ℕ → A → Said A
said_of (Ok _) zero a = said_identical a
said_of (Ok _) (suc e) a = said_differs a
said_of (Err k) e a = said_refused (number_of k)

pub error_says : (p : Planes) (frame plane : ℕ)
    → error_said (squared_error_of p frame plane) ≡ said_of (squared_error_refusal p plane) (squared_error_score p) (record_of p frame plane)
unfolding squared_error_of
error_says p frame plane = go (squared_error_refusal p plane) (squared_error_score p) (record_of p frame plane)
  where
    go : (v : Verdict) (e : ℕ) (r : Record) → error_said (unless_refused v (Ok (error_answer e r))) ≡ said_of v e r
    go (Ok _) zero r = refl
    go (Ok _) (suc e) r = refl
    go (Err k) e r = refl

-- what is said of the planes does not depend on whose they are
pub error_alone : (p : Planes) (f g q r : ℕ) → plane_suits q ≡ true → plane_suits r ≡ true
    → ((error_said (squared_error_of p f q)).number ≡ (error_said (squared_error_of p g r)).number)
    × (map figures_of (error_said (squared_error_of p f q)).figure ≡ map figures_of (error_said (squared_error_of p g r)).figure)
error_alone p f g q r a b =
    rw (error_says p f q, error_says p g r, planes_alone q p a, planes_alone r p b) (go (pair_refusal p 0) (squared_error_score p))
  where
    go : (v : Verdict) (e : ℕ) → ((said_of v e (record_of p f q)).number ≡ (said_of v e (record_of p g r)).number)
        × (map figures_of (said_of v e (record_of p f q)).figure ≡ map figures_of (said_of v e (record_of p g r)).figure)
    go (Ok _) zero = (refl, refl)
    go (Ok _) (suc e) = (refl, refl)
    go (Err k) e = (refl, refl)

pub series_says : (rs : List Record)
    → series_said (series_of rs) ≡ said_of (series_refusal rs) (error_total rs) (series_total (error_total rs) (count_total rs) (first_max rs))
unfolding series_of
series_says rs = go (series_refusal rs) (error_total rs) (count_total rs) (first_max rs)
  where
    go : (v : Verdict) (e n max : ℕ) → series_said (unless_refused v (Ok (series_answer e n max))) ≡ said_of v e (series_total e n max)
    go (Ok _) zero n max = refl
    go (Ok _) (suc e) n max = refl
    go (Err k) e n max = refl

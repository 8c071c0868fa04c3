-- A series' answer is made of its records' figures, and of whether their numbers are right (`series_figures`): other numbers that are right give the same
-- totals, bit for bit (`renumbered`). Assumes nothing.
use Rattle.std.proofs.Common.{◌≡◌, ℕ, ◌+◌, ◌*◌, Bool, true, false, ◌&&◌, eqb, leb, List, [], ◌∷◌, map, length, sym, refl, ◌∙◌, ap₂}
use mathlib.Core.Bool.{and-false}
use Rattle.std.specs.Prelude.{Result, Ok}
use Rattle.refusal.specs.declared.Refusal.{Refusal}
use Rattle.refusal.specs.declared.Refusal.TheVariants as no
use Rattle.refusal.specs.First.{first_broken, unless_refused}
use Rattle.psnr.specs.declared.Record.{Record}
use Rattle.psnr.specs.declared.Total.{Total}
use Rattle.psnr.specs.declared.Summed.{Summed}
use Rattle.psnr.specs.Limits.{record_limit, total_limit}
use Rattle.psnr.specs.Record.{whole_of, count_suits, max_suits, error_suits, plane_suits, record_suits, joins}
use Rattle.psnr.specs.Series.{first_max, all_join, rising, run_suits, error_total, count_total, series_answer, series_of}
use Rattle.psnr.specs.Said.{figures_of}

-- ---- the numbers are right: each plane's is one that planes have, and they rise
planes_suit : List Record → Bool
planes_suit [] = true
planes_suit (r ∷ rs) = plane_suits r.plane && planes_suit rs

pub numbered : List Record → Bool
numbered rs = planes_suit rs && rising rs

-- ---- the figures by themselves
abbrev figures_max : List Total → ℕ
figures_max [] = 0
figures_max (t ∷ ts) = t.sample_max

errors_of : List Total → ℕ
errors_of [] = 0
errors_of (t ∷ ts) = whole_of t.sq_err + errors_of ts

counts_of : List Total → ℕ
counts_of [] = 0
counts_of (t ∷ ts) = t.n + counts_of ts

figures_suit : ℕ → Total → Bool
figures_suit max t =
    count_suits t.n && max_suits t.sample_max && error_suits (t.n * (t.sample_max * t.sample_max)) t.sq_err && eqb t.sample_max max

all_suit : ℕ → List Total → Bool
all_suit max [] = true
all_suit max (t ∷ ts) = figures_suit max t && all_suit max ts

-- the answer that figures have, where their numbers are right or are not
pub figures_answer : List Total → Bool → Result Summed Refusal
figures_answer ts right =
    let few = leb 1 (length ts) && leb (length ts) record_limit in
    unless_refused (first_broken ((no.Record, few && all_suit (figures_max ts) ts && right) ∷ (no.Total, leb (errors_of ts) total_limit) ∷ []))
    (Ok (series_answer (errors_of ts) (counts_of ts) (figures_max ts)))

-- ---- they are those of the records
max_is : (rs : List Record) → first_max rs ≡ figures_max (map figures_of rs)
max_is [] = refl
max_is (r ∷ rs) = refl

errors_are : (rs : List Record) → error_total rs ≡ errors_of (map figures_of rs)
unfolding error_total errors_of
errors_are [] = refl
errors_are (r ∷ rs) = rw (errors_are rs)

counts_are : (rs : List Record) → count_total rs ≡ counts_of (map figures_of rs)
unfolding count_total counts_of
counts_are [] = refl
counts_are (r ∷ rs) = rw (counts_are rs)

length_is : (rs : List Record) → length rs ≡ length (map figures_of rs)
length_is [] = refl
length_is (r ∷ rs) = rw (length_is rs)

-- the figures f, the number p and the max m of one record beside the figures F and the numbers P of the others
one_more : (f p m F P : Bool) → (((f && p) && m) && (F && P)) ≡ (((f && m) && F) && (p && P))
one_more false p m F P = refl
one_more true false m F P = sym (and-false (m && F))
one_more true true false F P = refl
one_more true true true F P = refl

join_is : (max : ℕ) (rs : List Record) → all_join max rs ≡ (all_suit max (map figures_of rs) && planes_suit rs)
unfolding all_join joins record_suits all_suit figures_suit planes_suit
join_is max [] = refl
join_is max (r ∷ rs) =
    let figures = count_suits r.n && max_suits r.sample_max && error_suits (r.n * (r.sample_max * r.sample_max)) r.sq_err in
    rw (join_is max rs)
    (one_more figures (plane_suits r.plane) (eqb r.sample_max max) (all_suit max (map figures_of rs)) (planes_suit rs))

together : (l F P R : Bool) → ((l && (F && P)) && R) ≡ ((l && F) && (P && R))
together false F P R = refl
together true false P R = refl
together true true P R = refl

-- ---- the answer is made of both
pub series_figures : (rs : List Record) → series_of rs ≡ figures_answer (map figures_of rs) (numbered rs)
unfolding series_of run_suits numbered figures_answer
series_figures rs =
    rw (← (errors_are rs), ← (counts_are rs), ← (max_is rs), ← (length_is rs), join_is (first_max rs) rs, together)

pub renumbered : (xs ys : List Record) → map figures_of xs ≡ map figures_of ys → numbered xs ≡ numbered ys → series_of xs ≡ series_of ys
renumbered xs ys figures numbers = series_figures xs ∙ ap₂ figures_answer figures numbers ∙ sym (series_figures ys)

-- The walk over a run of records gives the answer that Series.antt defines (`series_is`), and it does not matter where a run is cut in
-- two (`fold_cut`). Assumes nothing.
use Rattle.std.proofs.Common.{◌≡◌, ℕ, ◌+◌, ◌*◌, ◌≤◌, min, Bool, true, false, ◌&&◌, ltb, leb, List, [], ◌∷◌, ◌++◌, length, sym, refl, ap, ◌∙◌, ap₂, le_trans, mul-le-mul_right, arith, ltb-false, ltb-true, ne_eqb, le-leb, leb-true}
use Rattle.std.proofs.lemmas.List.Sums.{fold-append}
use mathlib.Core.Bool.{and-false}
use native.Mathlib.Decide.{dec_le}
use borrow.Author.Tests.{lt-leb}
use Rattle.std.specs.Prelude.{Result, Ok}
use Rattle.refusal.specs.declared.Refusal.{Refusal}
use Rattle.refusal.specs.declared.Refusal.TheVariants as no
use Rattle.refusal.specs.First.{unless, unless_refused}
use Rattle.psnr.specs.declared.Summed.{Summed}
use Rattle.refusal.proofs.Chain.{and_left, and_right}
use Rattle.psnr.specs.declared.Record.{Record}
use Rattle.psnr.specs.declared.Tally.{Tally}
use Rattle.psnr.specs.declared.Run.{Run}
use Rattle.psnr.specs.declared.Run.TheVariants.{Sound, Spoiled}
use Rattle.psnr.specs.Limits.{count_limit, record_limit, total_limit}
use Rattle.psnr.specs.Record.{joins}
use Rattle.psnr.specs.Series.{all_join, rising, run_suits, error_total, count_total, series_answer, series_of}
use Rattle.psnr.specs.Inner.Fold.{tally_none, tally_more, rises, run_if, run_with, run_start, run_step, run_from, run_finish}
use Rattle.psnr.proofs.Records.{joins_suits, suits_count}

-- ---- a run cut in two: the second part goes on from what the first left
pub fold_cut : (s : Run) (xs ys : List Record) → run_from s (xs ++ ys) ≡ run_from (run_from s xs) ys
fold_cut s xs ys = fold-append run_step s xs ys

pub error_cut : (xs ys : List Record) → error_total (xs ++ ys) ≡ error_total xs + error_total ys
unfolding error_total
error_cut [] ys = omega arith
error_cut (x ∷ xs) ys = omega (arith, error_cut xs ys)

pub count_cut : (xs ys : List Record) → count_total (xs ++ ys) ≡ count_total xs + count_total ys
unfolding count_total
count_cut [] ys = omega arith
count_cut (x ∷ xs) ys = omega (arith, count_cut xs ys)

-- ---- what is spoiled stays so
fold_spoiled : (rs : List Record) → run_from Spoiled rs ≡ Spoiled
unfolding run_step
fold_spoiled [] = refl
fold_spoiled (r ∷ rs) = fold_spoiled rs

-- ---- a tally of which each number is within its cap
record Capped (s : Tally) : Type 0 where
  few : s.records ≤ record_limit
  low : s.error ≤ total_limit + 1
  short : s.n ≤ record_limit * count_limit

-- the frame and the plane of the last record; those given where there is none
abbrev last_frame : ℕ → List Record → ℕ
last_frame frame [] = frame
last_frame frame (r ∷ rs) = last_frame r.frame rs

abbrev last_plane : ℕ → List Record → ℕ
last_plane plane [] = plane
last_plane plane (r ∷ rs) = last_plane r.plane rs

-- the tally with all of rs
abbrev tally_all : Tally → List Record → Tally
tally_all s rs =
    record {
      records = s.records + length rs;
      error = min (s.error + error_total rs) (total_limit + 1);
      n = min (s.n + count_total rs) (record_limit * count_limit);
      sample_max = s.sample_max;
      frame = last_frame s.frame rs;
      plane = last_plane s.plane rs;
    }

-- tallies whose three sums are equal
abbrev summing : Tally → ℕ → ℕ → ℕ → Tally
summing t records error n =
    record { records = records; error = error; n = n; sample_max = t.sample_max; frame = t.frame; plane = t.plane }

tally_same : (t : Tally) {a b c a' b' c' : ℕ} → a ≡ a' → b ≡ b' → c ≡ c' → summing t a b c ≡ summing t a' b' c'
tally_same t p q r = λ i. summing t (p i) (q i) (r i)

tally_all_none : (s : Tally) → Capped s → tally_all s [] ≡ s
unfolding error_total count_total
tally_all_none s h = tally_same s (omega arith) (omega (arith, h.low)) (omega (arith, h.short))

tally_all_more : (s : Tally) (r : Record) (rs : List Record) → tally_all (tally_more s r) rs ≡ tally_all s (r ∷ rs)
unfolding error_total count_total
tally_all_more s r rs = tally_same (tally_all s (r ∷ rs)) (omega arith) (omega arith) (omega arith)

-- ---- the records rise from where the tally stands
goes_on : Tally → List Record → Bool
goes_on s [] = true
goes_on s (r ∷ rs) = rises s r && rising (r ∷ rs)

goes_next : (s : Tally) (r : Record) (rs : List Record) → goes_on (tally_more s r) rs ≡ rising (r ∷ rs)
unfolding goes_on rising rises
goes_next s r [] = refl
goes_next s r (t ∷ ts) = rw (ne_eqb (s.records + 1) 0 (λ z. omega arith))

-- the run is sound while no record is bad, none too many, and each comes after the one before it
fold_is : (rs : List Record) (s : Tally) → Capped s
    → run_from (Sound s) rs ≡ run_if (leb (s.records + length rs) record_limit && all_join s.sample_max rs && goes_on s rs) (tally_all s rs)
unfolding run_step run_with all_join goes_on
fold_is [] s h = rw (le-leb (s.records + 0) record_limit (omega (arith, h.few))) (ap Sound (sym (tally_all_none s h)))
fold_is (r ∷ rs) s h =
    go (fold_is rs (tally_more s r)) (ltb s.records record_limit) refl (joins s.sample_max r) refl (rises s r)
  where
    few : Bool
    few = leb (s.records + length (r ∷ rs)) record_limit

    joined : Bool
    joined = all_join s.sample_max rs

    go : (Capped (tally_more s r) → run_from (Sound (tally_more s r)) rs ≡ run_if (leb (s.records + 1 + length rs) record_limit && joined && goes_on (tally_more s r) rs) (tally_all (tally_more s r) rs))
        → (a : Bool) → ltb s.records record_limit ≡ a → (b : Bool) → joins s.sample_max r ≡ b → (c : Bool)
        → run_from (run_if (a && b && c) (tally_more s r)) rs ≡ run_if (few && (b && joined) && (c && rising (r ∷ rs))) (tally_all s (r ∷ rs))
    go more false p b q c = fold_spoiled rs ∙ rw (lt-leb (s.records + length (r ∷ rs)) record_limit (omega (arith, ltb-false s.records record_limit p))) refl
    go more true p false q c = fold_spoiled rs ∙ rw (and-false few) refl
    go more true p true q false = fold_spoiled rs ∙ rw (and-false (few && joined)) refl
    go more true p true q true =
        more (record { few = omega (arith, ltb-true s.records record_limit p); low = omega arith; short = omega arith })
        ∙ rw (goes_next s r rs)
        (ap₂ (λ (k : ℕ) (t : Tally). run_if (leb k record_limit && joined && rising (r ∷ rs)) t) (omega arith) (tally_all_more s r rs))

-- ---- the counts of sound records stay within their cap
pub count_bound : (max : ℕ) (rs : List Record) → all_join max rs ≡ true → count_total rs ≤ length rs * count_limit
unfolding all_join count_total
count_bound max [] j = omega arith
count_bound max (r ∷ rs) j =
    omega (
      arith,
      suits_count r (joins_suits max r (and_left (joins max r) (all_join max rs) j)),
      count_bound max rs (and_right (joins max r) (all_join max rs) j),
    )

-- ---- the answer
-- the tally of no records
capped_none : (max : ℕ) → Capped (tally_none max)
capped_none max = record { few = omega arith; low = omega arith; short = omega arith }

-- the answer of a tally within its caps is that of the totals: one is above its limit exactly where the other is
module _ (E N max cap : ℕ) (l : N ≤ cap) where
  abbrev kept : ℕ
  kept = min (0 + E) (total_limit + 1)

  abbrev answer : ℕ → ℕ → Result Summed Refusal
  answer error n = unless_refused (unless (leb error total_limit) no.Total (Ok tt)) (Ok (series_answer error n max))

  capped : Dec (E ≤ total_limit) → answer kept (min (0 + N) cap) ≡ answer E N
  capped (yes m) =
      let e : kept ≡ E = omega arith in
      let n : min (0 + N) cap ≡ N = omega arith in
      rw (e, n)
  capped (no m) =
      let e : kept ≡ total_limit + 1 = omega arith in
      rw (e, lt-leb E total_limit (omega arith), lt-leb (total_limit + 1) total_limit (omega arith))

module _ (r : Record) (rs : List Record) where
  abbrev all : List Record
  all = r ∷ rs

  abbrev max : ℕ
  max = r.sample_max

  abbrev few_join : Bool
  few_join = leb (0 + length all) record_limit && all_join max all

  suits : run_suits all ≡ (few_join && goes_on (tally_none max) all)
  unfolding run_suits goes_on rises
  suits = let e : 0 + length all ≡ length all = omega arith in rw (le-leb 1 (length all) (omega arith), e)

  ended : (b : Bool) → (few_join && goes_on (tally_none max) all) ≡ b → run_finish (run_if b (tally_all (tally_none max) all)) ≡ series_of all
  unfolding run_finish series_of
  ended false e = rw (suits, e)
  ended true e =
      let both = and_left few_join (goes_on (tally_none max) all) e in
      let few : 0 + length all ≤ record_limit = leb-true (0 + length all) record_limit (and_left _ _ both) in
      let join = and_right (leb (0 + length all) record_limit) (all_join max all) both in
      let cap : count_total all ≤ record_limit * count_limit = le_trans (count_bound max all join) (mul-le-mul_right count_limit (omega arith)) in
      rw (suits, e) (capped (error_total all) (count_total all) max (record_limit * count_limit) cap (dec_le (error_total all) total_limit))

-- the walk gives the answer of the definition, of every run
pub series_is : (rs : List Record) → run_finish (run_from run_start rs) ≡ series_of rs
unfolding run_finish run_step series_of run_suits
series_is [] = refl
series_is (r ∷ rs) = ap run_finish (fold_is (r ∷ rs) (tally_none r.sample_max) (capped_none r.sample_max)) ∙ ended r rs _ refl

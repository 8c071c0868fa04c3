-- What a series that is taken may be counted on for: no frame and plane occur twice in it (`no_two_alike`), and it may be cut anywhere: both parts are
-- taken (`parts_taken`), and their sums add up to its own (Fold, `error_cut`, `count_cut`). Assumes nothing.
use Rattle.std.proofs.Common.{◌≡◌, ℕ, ◌+◌, ◌<◌, ◌≤◌, true, ◌&&◌, leb, ◌⊎◌, List, [], ◌∷◌, ◌++◌, length, get_or, refl, inl, inr, arith, length-append, eqb-true, le-leb, leb-true}
use Rattle.std.specs.Prelude.{Ok}
use Rattle.refusal.proofs.Chain.{and_left, and_right, passed}
use Rattle.psnr.specs.declared.Record.{Record}
use Rattle.psnr.specs.Limits.{record_limit, total_limit}
use Rattle.psnr.specs.Record.{record_suits, joins, before}
use Rattle.psnr.specs.Series.{first_max, all_join, rising, run_suits, error_total, series_tests, series_refusal}
use Rattle.psnr.proofs.Rising.{earlier_says, rising_rest, rising_says}
use Rattle.psnr.proofs.Fold.{error_cut}

-- ---- no frame and plane occur twice
series_rises : (rs : List Record) → series_refusal rs ≡ Ok tt → rising rs ≡ true
unfolding run_suits
series_rises rs e =
    let tests = passed (series_tests rs) e in
    and_right (leb 1 (length rs) && leb (length rs) record_limit && all_join (first_max rs) rs) (rising rs) tests.0

module _ (none : Record) (rs : List Record) (e : series_refusal rs ≡ Ok tt) (i j : ℕ) (l : i < j) (m : j < length rs) where
  abbrev one : Record
  one = get_or rs i none

  abbrev other : Record
  other = get_or rs j none

  pub no_two_alike : one.frame ≡ other.frame → one.plane ≡ other.plane → ⊥
  no_two_alike f p = go (earlier_says _ _ _ _ (rising_says none rs (series_rises rs e) i j l m))
    where
      go : (one.frame < other.frame) ⊎ ((one.frame ≡ other.frame) × (one.plane < other.plane)) → ⊥
      go (inl k) = omega (arith, f, k)
      go (inr k) = omega (arith, p, k.1)

-- ---- a part of it
join_cut : (max : ℕ) (xs ys : List Record) → all_join max (xs ++ ys) ≡ true → (all_join max xs ≡ true) × (all_join max ys ≡ true)
unfolding all_join
join_cut max [] ys e = (refl, e)
join_cut max (x ∷ xs) ys e =
    let rest = join_cut max xs ys (and_right (joins max x) _ e) in (rw (and_left (joins max x) _ e, rest.0), rest.1)

rising_cut : (xs ys : List Record) → rising (xs ++ ys) ≡ true → (rising xs ≡ true) × (rising ys ≡ true)
unfolding rising
rising_cut [] ys e = (refl, e)
rising_cut (x ∷ []) ys e = (refl, rising_rest x ys e)
rising_cut (x ∷ z ∷ xs) ys e =
    let rest = rising_cut (z ∷ xs) ys (and_right (before x z) _ e) in (rw (and_left (before x z) _ e, rest.0), rest.1)

-- the max under which all join is that of the first, whichever record that is
first_max_lem : (max : ℕ) (rs : List Record) → 1 ≤ length rs → all_join max rs ≡ true → first_max rs ≡ max
unfolding all_join joins
first_max_lem max [] l e = absurd (omega arith)
first_max_lem max (r ∷ rs) l e = eqb-true r.sample_max max (and_right (record_suits r) _ (and_left _ _ e))

-- a part of a run that is taken
part_taken : (max : ℕ) (rs : List Record) → 1 ≤ length rs → length rs ≤ record_limit → all_join max rs ≡ true → rising rs ≡ true
    → error_total rs ≤ total_limit → series_refusal rs ≡ Ok tt
unfolding run_suits
part_taken max rs some few join up fits =
    rw (le-leb 1 (length rs) some, le-leb (length rs) record_limit few, first_max_lem max rs some join, join, up, le-leb (error_total rs) total_limit fits)

pub parts_taken : (xs ys : List Record) → 1 ≤ length xs → 1 ≤ length ys → series_refusal (xs ++ ys) ≡ Ok tt
    → (series_refusal xs ≡ Ok tt) × (series_refusal ys ≡ Ok tt)
unfolding run_suits
parts_taken xs ys some more e =
    let all = xs ++ ys in
    let max = first_max all in
    let tests = passed (series_tests all) e in
    let a = leb 1 (length all) && leb (length all) record_limit in
    let joined = and_left (a && all_join max all) (rising all) tests.0 in
    let join = join_cut max xs ys (and_right a (all_join max all) joined) in
    let up = rising_cut xs ys (and_right (a && all_join max all) (rising all) tests.0) in
    let few : length all ≤ record_limit = leb-true (length all) record_limit (and_right (leb 1 (length all)) _ (and_left a _ joined)) in
    let fits : error_total all ≤ total_limit = leb-true (error_total all) total_limit tests.1.0 in
    let lengths : length all ≡ length xs + length ys = length-append xs ys in
    let errors : error_total all ≡ error_total xs + error_total ys = error_cut xs ys in (
      part_taken max xs some (omega (arith, few, lengths)) join.0 up.0 (omega (arith, fits, errors)),
      part_taken max ys more (omega (arith, few, lengths)) join.1 up.1 (omega (arith, fits, errors)),
    )

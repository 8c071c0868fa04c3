-- What Totals says of a series' total is all that can be said: any numbers of which it holds are the total of some run (`sums_given`), the first planes
-- of frames from 0 on. Assumes nothing.
use Rattle.std.proofs.Common.{◌≡◌, ℕ, zero, suc, ◌+◌, ◌-◌, ◌*◌, ◌/◌, ◌%◌, ◌<◌, ◌≤◌, min, true, List, [], ◌∷◌, length, refl, ap, ◌∙◌, le_trans, le_of_lt, mod-lt, suc-mul}
use Rattle.std.proofs.Common.{add-mul, lt_of_mul-lt-mul_right, div-add-mod', arith, eq-eqb, le-leb}
use Rattle.std.specs.Prelude.{Ok}
use Rattle.number.specs.Steps.{double}
use Rattle.psnr.specs.declared.Record.{Record}
use Rattle.psnr.specs.Limits.{count_limit, most_plane, record_limit, total_limit}
use Rattle.psnr.specs.Record.{is_whole, whole_of, count_suits, max_suits, error_suits, plane_suits, record_suits, joins}
use Rattle.psnr.specs.Series.{first_max, all_join, rising, run_suits, error_total, count_total, series_refusal}
use Rattle.psnr.proofs.Records.{product_fits}
use Rattle.psnr.proofs.Whole.{whole_back}
use Rattle.psnr.proofs.Room.{count_some}
use Rattle.psnr.proofs.Rising.{next_frame}

-- each frame's number is below m
abbrev pub FramesBelow : ℕ → List Record → Type 0
FramesBelow m [] = Unit {0}
FramesBelow m (r ∷ rs) = (r.frame < m) × FramesBelow m rs

-- a run with these sums, that is taken; its frames' numbers are far below what they may be
pub record Given (error n max : ℕ) : Type 0 where
  pub run : List Record
  pub taken : series_refusal run ≡ Ok tt
  pub errors : error_total run ≡ error
  pub counts : count_total run ≡ n
  pub its_max : first_max run ≡ max
  pub low : FramesBelow record_limit run

module _ (max : ℕ) (suits : max_suits max ≡ true) where
  abbrev square : ℕ
  square = max * max

  -- the largest error of a record that counts as many samples as it may
  abbrev full : ℕ
  full = count_limit * square

  abbrev one : ℕ → ℕ → ℕ → Record
  one f n e = record { sq_err = double e; n = n; sample_max = max; frame = f; plane = 0 }

  count_suits_lem : (n : ℕ) → 1 ≤ n → n ≤ count_limit → count_suits n ≡ true
  unfolding count_suits
  count_suits_lem n some few = rw (le-leb 1 n some, le-leb n count_limit few)

  whole : (n e : ℕ) → 1 ≤ n → n ≤ count_limit → e ≤ n * square → (is_whole (double e) ≡ true) × (whole_of (double e) ≡ e)
  unfolding total_limit
  whole n e some few below = whole_back e (le_trans below (le_of_lt (product_fits n max (count_suits_lem n some few) suits)))

  one_joins : (f n e : ℕ) → 1 ≤ n → n ≤ count_limit → e ≤ n * square → joins max (one f n e) ≡ true
  unfolding joins record_suits error_suits plane_suits
  one_joins f n e some few below =
      let w = whole n e some few below in
      rw (count_suits_lem n some few, suits, w.0, w.1, le-leb e (n * square) below, le-leb 0 most_plane (omega arith), eq-eqb max max refl)

  -- from frame f on, k records that count as many samples as they may, with as much of the error as they can have, and one with the rest
  run_of : ℕ → ℕ → ℕ → ℕ → List Record
  run_of zero f n e = one f n e ∷ []
  run_of (suc k) f n e = one f count_limit (min e full) ∷ run_of k (suc f) (n - count_limit) (e - min e full)

  -- a record of the frame before it may stand in front
  front_rises : (k f n e m d : ℕ) → rising (run_of k (suc f) n e) ≡ true → rising (one f m d ∷ run_of k (suc f) n e) ≡ true
  unfolding run_of rising
  front_rises zero f n e m d up = rw (next_frame f 0 (suc f) 0 (omega arith), up)
  front_rises (suc k) f n e m d up = rw (next_frame f 0 (suc f) 0 (omega arith), up)

  record Is (k f n e : ℕ) (rs : List Record) : Type 0 where
    long : length rs ≡ suc k
    up : rising rs ≡ true
    low : (m : ℕ) → f + k < m → FramesBelow m rs
    joined : all_join max rs ≡ true
    errors : error_total rs ≡ e
    counts : count_total rs ≡ n

  is : (k f n e : ℕ) → k * count_limit < n → n ≤ suc k * count_limit → e ≤ n * square → Is k f n e (run_of k f n e)
  unfolding run_of all_join rising error_total count_total
  is zero f n e some few below =
      let less : n ≤ count_limit = omega arith in
      record {
        long = refl;
        up = refl;
        low = λ m l. (omega arith, tt);
        joined = rw (one_joins f n e (omega arith) less below);
        errors = rw (whole n e (omega arith) less below).1 (omega arith);
        counts = omega arith;
      }
  is (suc k) f n e some few below =
      let m = n - count_limit in
      let split : n ≡ m + count_limit = omega (arith, suc-mul k count_limit) in
      let spread : (m + count_limit) * square ≡ m * square + full = add-mul m count_limit square in
      let area : n * square ≡ m * square + full = ap (λ (x : ℕ). x * square) split ∙ spread in
      let later = is k (suc f) m (e - min e full) (omega (arith, suc-mul k count_limit)) (omega (arith, suc-mul (suc k) count_limit)) (omega (arith, below, area)) in
      let most : min e full ≤ full = omega arith in
      record {
        long = ap suc later.long;
        up = front_rises k f m (e - min e full) count_limit (min e full) later.up;
        low = λ m l. (omega arith, later.low m (omega arith));
        joined = rw (one_joins f count_limit (min e full) count_some (omega arith) most, later.joined);
        errors = rw ((whole count_limit (min e full) count_some (omega arith) most).1, later.errors) (omega arith);
        counts = omega (arith, later.counts, split);
      }

  first : (k f n e : ℕ) → first_max (run_of k f n e) ≡ max
  unfolding run_of
  first zero f n e = refl
  first (suc k) f n e = refl

  pub sums_given : (error n : ℕ) → 1 ≤ n → n ≤ record_limit * count_limit → error ≤ n * (max * max) → error ≤ total_limit → Given error n max
  unfolding run_suits
  sums_given error n some few below fits =
      let k = (n - 1) / count_limit in
      let parts : k * count_limit + (n - 1) % count_limit ≡ n - 1 = div-add-mod' (n - 1) count_limit in
      let rest : (n - 1) % count_limit < count_limit = mod-lt (n - 1) count_some in
      let i = is k 0 n error (omega arith) (omega (arith, suc-mul k count_limit)) below in
      let under : k * count_limit < record_limit * count_limit = omega arith in
      let short : suc k ≤ record_limit = lt_of_mul-lt-mul_right count_limit under in
      let rs = run_of k 0 n error in
      record {
        run = rs;
        taken = rw (first k 0 n error, i.long, le-leb 1 (suc k) (omega arith), le-leb (suc k) record_limit short, i.joined, i.up, i.errors, le-leb error total_limit fits);
        errors = i.errors;
        counts = i.counts;
        its_max = first k 0 n error;
        low = i.low record_limit (omega arith);
      }

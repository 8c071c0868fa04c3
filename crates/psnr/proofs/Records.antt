-- What the tests of a record say where they pass, and that n × max² then stays below the largest total. Assumes nothing.
use Rattle.std.proofs.Common.{◌≡◌, ℕ, zero, suc, ◌+◌, ◌*◌, ◌^◌, ◌<◌, ◌≤◌, Bool, true, false, ◌&&◌, ◌||◌, eqb, leb, List, [], ◌∷◌, ◌++◌, refl, ap, ◌∙◌, not-suc-le-zero, lt_of_le_of_lt, mul-le-mul, arith, lit<, eqb-true, leb-true}
use Rattle.std.specs.List.{list_any, range_with_len}
use Rattle.std.proofs.lemmas.List.Folds.{list_any-append}
use mathlib.Core.Bool.{or-true, or-false}
use native.Mathlib.Decide.{dec_lt}
use Rattle.refusal.proofs.Chain.{and_left, and_right}
use Rattle.plane.specs.Limits.{most_depth}
use Rattle.plane.specs.Plane.{max_of, sample_limit}
use Rattle.plane.proofs.Depth.{max_grows}
use Rattle.psnr.specs.Limits.{count_limit, total_limit}
use Rattle.psnr.specs.declared.Record.{Record}
use Rattle.psnr.specs.Record.{is_whole, whole_of, some_to, count_suits, max_suits, error_suits, record_suits, joins}
use Rattle.psnr.proofs.Squares.{total_fits}

-- ---- some index below n
range_more : (a n : ℕ) → range_with_len a (suc n) ≡ range_with_len a n ++ ((a + n) ∷ [])
range_more a zero = let e : a ≡ a + 0 = omega arith in ap (λ (x : ℕ). x ∷ []) e
range_more a (suc n) =
    let e : a + 1 + n ≡ a + suc n = omega arith in
    ap (λ (t : List ℕ). a ∷ t) (range_more (a + 1) n ∙ ap (λ (x : ℕ). range_with_len (a + 1) n ++ (x ∷ [])) e)

-- as std's `any` of a range tells it
pub some_range : (f : ℕ → Bool) (n : ℕ) → list_any f (range_with_len 0 n) ≡ some_to f n
unfolding some_to
some_range f zero = refl
some_range f (suc n) =
    let e : 0 + n ≡ n = omega arith in
    ap (list_any f) (range_more 0 n)
    ∙ list_any-append f (range_with_len 0 n) ((0 + n) ∷ [])
    ∙ rw (some_range f n, e, or-false) refl

-- f holds at an index below n
pub some_true : (f : ℕ → Bool) (n i : ℕ) → i < n → f i ≡ true → some_to f n ≡ true
unfolding some_to
some_true f zero i l e = absurd (not-suc-le-zero l)
some_true f (suc n) i l e = go (some_true f n i) (dec_lt i n)
  where
    go : (i < n → f i ≡ true → some_to f n ≡ true) → Dec (i < n) → (some_to f n || f n) ≡ true
    go below (yes m) = rw (below m e)
    go below (no m) = let q : n ≡ i = omega arith in rw (q, e, or-true)

-- what holds wherever f does, holds where f does at some index
some_says : (f : ℕ → Bool) (P : Type 0) (n : ℕ) → ((i : ℕ) → i < n → f i ≡ true → P) → some_to f n ≡ true → P
unfolding some_to
some_says f P zero h e = let z : ◌≡◌ {A = ℕ} 0 1 = cc in absurd (omega arith)
some_says f P (suc n) h e = go (some_says f P n (λ (i : ℕ) (l : i < n). h i (omega arith))) (some_to f n) refl (f n) refl
  where
    go : (some_to f n ≡ true → P) → (a : Bool) → some_to f n ≡ a → (b : Bool) → f n ≡ b → P
    go below true p b q = below p
    go below false p true q = h n (omega arith) q
    go below false p false q = let z : ◌≡◌ {A = ℕ} 0 1 = cc (e, p, q) in absurd (omega arith)

-- ---- the tests of a record
count_says : (n : ℕ) → count_suits n ≡ true → (1 ≤ n) × (n ≤ count_limit)
unfolding count_suits
count_says n e = (leb-true 1 n (and_left _ _ e), leb-true n count_limit (and_right (leb 1 n) _ e))

pub max_says : (max : ℕ) → max_suits max ≡ true → max ≤ sample_limit
unfolding max_suits
max_says max =
    some_says _ (max ≤ sample_limit) (most_depth true)
    (λ (i : ℕ) (l : i < most_depth true) (e : eqb max (max_of (i + 1)) ≡ true). rw (eqb-true max (max_of (i + 1)) e) (max_grows (omega arith)))

-- the largest error of a record: said of the limits, whatever they are
pub squares_fit : count_limit * (sample_limit * sample_limit) < total_limit
unfolding count_limit most_depth max_of total_limit
squares_fit = lit< tt

top_fits : sample_limit * sample_limit < 2 ^ 64
unfolding most_depth max_of
top_fits = lit< tt

pub square_fits : (max : ℕ) → max_suits max ≡ true → max * max < 2 ^ 64
square_fits max e = lt_of_le_of_lt (mul-le-mul (max_says max e) (max_says max e)) top_fits

pub product_fits : (n max : ℕ) → count_suits n ≡ true → max_suits max ≡ true → n * (max * max) < total_limit
product_fits n max c m =
    lt_of_le_of_lt (mul-le-mul (count_says n c).1 (mul-le-mul (max_says max m) (max_says max m))) squares_fit

pub product_room : (n max : ℕ) → count_suits n ≡ true → max_suits max ≡ true → n * (max * max) < 2 ^ 64
product_room n max c m = omega (arith, product_fits n max c m, total_fits)

-- ---- a record that joins a series
pub joins_suits : (max : ℕ) (r : Record) → joins max r ≡ true → record_suits r ≡ true
unfolding joins
joins_suits max r e = and_left _ _ e

-- ---- a record that is not bad by itself
module _ (r : Record) (e : record_suits r ≡ true) where
  abbrev count_max : Bool
  count_max = count_suits r.n && max_suits r.sample_max

  abbrev error : Bool
  error = error_suits (r.n * (r.sample_max * r.sample_max)) r.sq_err

  figures : (count_max && error) ≡ true
  unfolding record_suits
  figures = and_left (count_max && error) _ e

  pub suits_count_suits : count_suits r.n ≡ true
  suits_count_suits = and_left _ _ (and_left count_max error figures)

  pub suits_max : max_suits r.sample_max ≡ true
  suits_max = and_right (count_suits r.n) _ (and_left count_max error figures)

  suits_error : error ≡ true
  suits_error = and_right count_max error figures

  pub suits_count : r.n ≤ count_limit
  suits_count = (count_says r.n suits_count_suits).1

  pub suits_some : 1 ≤ r.n
  suits_some = (count_says r.n suits_count_suits).0

  pub suits_whole : is_whole r.sq_err ≡ true
  unfolding error_suits
  suits_whole = and_left _ _ suits_error

  -- its error is at most what its samples can have
  pub suits_most : whole_of r.sq_err ≤ r.n * (r.sample_max * r.sample_max)
  unfolding error_suits
  suits_most = leb-true _ _ (and_right (is_whole r.sq_err) _ suits_error)

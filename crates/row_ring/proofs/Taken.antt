-- A group of rows, taken one by one: what the code does at a row is a row of the definition; and the invariant between rows, whatever groups
-- they come in. After r rows the ring shows the last of them, past it all is zero, and the totals are those of the rows that can be scored.
-- Assumes nothing.
use mathlib.Core.Path.{◌≡◌, refl, sym, ap, ◌∙◌}
use mathlib.Core.List.{List}
use Prim.Native.Nat.{ℕ, zero, suc, ◌+◌, ◌-◌, ◌*◌, ◌/◌, ◌%◌, ◌≤◌, ◌<◌}
use native.Mathlib.Nat.{add-zero, le_refl}
use native.Mathlib.Omega.{arith}
use lib.Ieee.{Float}
use lib.IntN.{ℤ, pos}
use lib.ListN.{length}
use Rattle.number.proofs.Folds.{fold_more, fold_none}
use Rattle.plane.specs.Plane.{Planes, sample_at}
use Rattle.window.specs.Inner.Columns.{at_z, Put}
use Rattle.ssim.specs.declared.Totals.{Totals}
use Rattle.ssim.specs.Score.{no_totals, totals_of}
use Rattle.row_ring.specs.declared.Ring.{Ring}
use Rattle.row_ring.specs.Ring.{ring_places, pair_base, packed_of, ring_a, ring_b}
use Rattle.row_ring.specs.Taken.{rows_from, scored_after, Kept, with_row, take_row, taken_of}
use Rattle.row_ring.specs.Inner.Places.{Clean}
use Rattle.row_ring.proofs.Rings.{Shows, slot_inside, shows_none, shows_more}
use Rattle.row_ring.proofs.Stored.{put_is, stored_length, stored_put}
use Rattle.row_ring.proofs.Scored.{ring_a_lem, ring_b_lem}
use Rattle.row_ring.proofs.Rows.{scored_before, scored_last, fed_step}

-- ---- one row of the code
module _ (max2 : Float) (ker : List ℕ) (ring : Ring) (rows : Planes) (received : ℕ) (k₀ : Kept) where
  abbrev after : ℕ → Kept
  after n = taken_of max2 ker ring rows received k₀ n

  pub taken_none : after 0 ≡ k₀
  unfolding taken_of
  taken_none = fold_none _ k₀

  taken_next : (n : ℕ) → after (n + 1) ≡ take_row max2 ker ring rows received (after n) n
  unfolding taken_of
  taken_next n = fold_more _ k₀ n

  pub taken_more : (i : ℕ) (s new : List ℤ) (t t' : Totals) (from upto : ℕ) → record { places = s; totals = t } ≡ after i
      → Put s new ((received + i) % ring.lines * ring.width) ring.width (λ (x : ℕ). packed_of (sample_at rows.a i x) (sample_at rows.b i x))
      → length new ≡ length s
      → t' ≡ rows_from max2 ker ring.width ring.height (ring_a new ring.width ring.lines) (ring_b new ring.width ring.lines) t from (upto - from)
      → from ≡ scored_after (received + i) ring.height (length ker / 2) → upto ≡ scored_after (received + i + 1) ring.height (length ker / 2)
      → 0 < ring.lines → ring_places ring ≤ length s
      → record { places = new; totals = t' } ≡ after (i + 1)
  taken_more i s new t t' from upto held p same w f u some room =
      let e = put_is s new ((received + i) % ring.lines * ring.width) ring.width
      (λ (x : ℕ). packed_of (sample_at rows.a i x) (sample_at rows.b i x)) p same
      (slot_inside ring.width ring.lines (received + i) (length s) some room) in
      let step : record { places = new; totals = t' } ≡ take_row max2 ker ring rows received (record { places = s; totals = t }) i = rw (w, f, u, e) in
      step ∙ ap (λ (k : Kept). take_row max2 ker ring rows received k i) held ∙ sym (taken_next i)

  -- as many places as before
  pub taken_length : (n : ℕ) → length (after n).places ≡ length k₀.places
  taken_length zero = rw taken_none
  taken_length (suc n) =
      let e : suc n ≡ n + 1 = omega arith in
      rw (e, taken_next n) (stored_length (after n).places _ _ ring.width ∙ taken_length n)

-- ---- the invariant, of views a and b of the whole planes
module _ (max2 : Float) (ker : List ℕ) (ring : Ring) (a b : ℕ → ℕ → ℕ) where
  abbrev off : ℕ
  off = length ker / 2

  pub record Fed (k : Kept) (r : ℕ) : Type 0 where
    pub shows : Shows k.places ring.width ring.lines a b r
    pub clean : Clean ring k.places
    pub sums : k.totals ≡ totals_of max2 ker ring.width ring.height a b (scored_after r ring.height off)

  -- begun
  pub fed_none : (s : List ℤ) → ((j : ℕ) → at_z s j ≡ pos 0) → 0 < ring.height → Fed (record { places = s; totals = no_totals }) 0
  unfolding totals_of
  fed_none s z l =
      let e : scored_after 0 ring.height off ≡ 0 = scored_before 0 ring.height off l ∙ omega arith in
      record { shows = shows_none s ring.width ring.lines a b; clean = λ j m. z j; sums = rw e (sym (fold_none _ _)) }

  -- other places with the same ring, and zeros past it
  pub fed_same : (k : Kept) (s : List ℤ) (r : ℕ) → 0 < ring.lines → ((i : ℕ) → i < ring_places ring → at_z s i ≡ at_z k.places i) → Clean ring s → Fed k r
      → Fed (record { places = s; totals = k.totals }) r
  fed_same k s r some same clean f =
      let ra = ring_a_lem k.places s ring.width ring.lines (ring_places ring) some (le_refl _) same in
      let rb = ring_b_lem k.places s ring.width ring.lines (ring_places ring) some (le_refl _) same in
      record {
        shows = record { first = λ q c l m n. ra q c n ∙ f.shows.first q c l m n; second = λ q c l m n. rb q c n ∙ f.shows.second q c l m n };
        clean = clean;
        sums = f.sums;
      }

  -- all rows have come
  pub fed_all_lem : (k : Kept) (r : ℕ) → r ≡ ring.height → Fed k r → k.totals ≡ totals_of max2 ker ring.width ring.height a b ring.height
  fed_all_lem k r e f = f.sums ∙ ap (totals_of max2 ker ring.width ring.height a b) (scored_last r ring.height off e)

  -- one row more, row r of the views
  module _ (low_a : (r c : ℕ) → c < ring.width → r < ring.height → a r c < pair_base) (low_b : (r c : ℕ) → c < ring.width → r < ring.height → b r c < pair_base)
      (lines : 2 * off + 1 ≤ ring.lines) where
    fed_more : (k : Kept) (new : List ℤ) (t' : Totals) (r : ℕ) (g : ℕ → ℕ) → Fed k r → Put k.places new (r % ring.lines * ring.width) ring.width g
        → ((c : ℕ) → c < ring.width → g c ≡ packed_of (a r c) (b r c)) → r < ring.height
        → t' ≡ rows_from max2 ker ring.width ring.height (ring_a new ring.width ring.lines) (ring_b new ring.width ring.lines) k.totals
        (scored_after r ring.height off) (scored_after (r + 1) ring.height off - scored_after r ring.height off)
        → Fed (record { places = new; totals = t' }) (r + 1)
    fed_more k new t' r g fed p same l e =
        let n = ring_places ring in
        let low = slot_inside ring.width ring.lines r n (omega arith) (le_refl n) in
        let shown = shows_more k.places new ring.width ring.lines r g p a b same (λ c m. low_a r c m l) (λ c m. low_b r c m l) fed.shows in
        record {
          shows = shown;
          clean = λ j m. p.after j (omega (arith, low)) ∙ fed.clean j m;
          sums = e ∙ fed_step max2 ker ring.width ring.height a b new ring.lines r shown lines l k.totals _ _ fed.sums refl refl;
        }

    -- n rows of a group whose row i is row received + i of the views
    pub group_fed : (rows : Planes) (received : ℕ) (k₀ : Kept) → ring_places ring ≤ length k₀.places → (n : ℕ) → received + n ≤ ring.height
        → ((i c : ℕ) → i < n → c < ring.width → sample_at rows.a i c ≡ a (received + i) c)
        → ((i c : ℕ) → i < n → c < ring.width → sample_at rows.b i c ≡ b (received + i) c)
        → Fed k₀ received → Fed (taken_of max2 ker ring rows received k₀ n) (received + n)
    group_fed rows received k₀ room zero l sa sb fed = rw (taken_none max2 ker ring rows received k₀, add-zero received) fed
    group_fed rows received k₀ room (suc n) l sa sb fed =
        let e : received + (n + 1) ≡ received + n + 1 = omega arith in
        let d : suc n ≡ n + 1 = omega arith in
        let k = taken_of max2 ker ring rows received k₀ n in
        let g : ℕ → ℕ = λ x. packed_of (sample_at rows.a n x) (sample_at rows.b n x) in
        let before = group_fed rows received k₀ room n (omega arith) (λ i c (m : i < n). sa i c (omega arith)) (λ i c (m : i < n). sb i c (omega arith)) fed in
        rw (d, taken_next max2 ker ring rows received k₀ n, e)
        (fed_more k (with_row max2 ker ring rows received k.places n) _ (received + n) g before
        (stored_put k.places ((received + n) % ring.lines * ring.width) g ring.width
        (slot_inside ring.width ring.lines (received + n) (length k.places) (omega arith)
        (omega (arith, taken_length max2 ker ring rows received k₀ n))))
        (λ c m. rw (sa n c (omega arith) m, sb n c (omega arith) m)) (omega arith) refl)

-- Rows scored as they come are the rows of the definition: the step of the grouping theorem. Assumes nothing.
use mathlib.Core.Path.{◌≡◌, sym, ap, ◌∙◌}
use mathlib.Core.List.{List}
use Prim.Native.Nat.{ℕ, zero, suc, ◌+◌, ◌-◌, ◌*◌, ◌/◌, ◌≤◌, ◌<◌}
use native.Mathlib.Nat.{add-zero, ne_of_lt}
use native.Mathlib.Decide.{dec_lt}
use borrow.Author.Tests.{eq-eqb, ne_eqb}
use native.Mathlib.Omega.{arith}
use lib.Ieee.{Float}
use lib.IntN.{ℤ}
use lib.ListN.{length}
use Rattle.number.proofs.Folds.{fold_more, fold_none, fold_ext}
use Rattle.number.specs.Steps.{fold_to}
use Rattle.window.specs.Moments.{moments_at}
use Rattle.window.proofs.Visible.{moments_near}
use Rattle.ssim.specs.declared.Totals.{Totals}
use Rattle.ssim.specs.Score.{with_centre, row_of, no_totals, totals_of}
use Rattle.row_ring.specs.Ring.{ring_a, ring_b}
use Rattle.row_ring.specs.Taken.{rows_from, scored_after}
use Rattle.row_ring.proofs.Rings.{Shows}

module _ (max2 : Float) (ker : List ℕ) (width height : ℕ) (a b : ℕ → ℕ → ℕ) where
  pub rows_none : (t : Totals) (from n : ℕ) → n ≡ 0 → rows_from max2 ker width height a b t from n ≡ t
  unfolding rows_from
  rows_none t from n e = rw e (fold_none _ t)

  -- one row more, at the code's y + 1
  pub rows_more : (t : Totals) (from y : ℕ) → from ≤ y
      → rows_from max2 ker width height a b t from (y + 1 - from)
      ≡ row_of max2 (λ (x : ℕ). moments_at ker width height a b x y) (rows_from max2 ker width height a b t from (y - from)) width
  unfolding rows_from
  rows_more t from y l =
      let e : y + 1 - from ≡ y - from + 1 = omega arith in
      let f : from + (y - from) ≡ y = omega arith in
      rw e (fold_more (λ (s : Totals) (i : ℕ). row_of max2 (λ (x : ℕ). moments_at ker width height a b x (from + i)) s width) t (y - from)
      ∙ ap (λ (q : ℕ). row_of max2 (λ (x : ℕ). moments_at ker width height a b x q)
      (fold_to (λ (s : Totals) (i : ℕ). row_of max2 (λ (x : ℕ). moments_at ker width height a b x (from + i)) s width) t (y - from)) width) f)

  -- rows after rows
  rows_join : (from n : ℕ) → rows_from max2 ker width height a b (totals_of max2 ker width height a b from) from n ≡ totals_of max2 ker width height a b (from + n)
  unfolding rows_from totals_of
  rows_join from zero = rw (add-zero from) (fold_none _ _)
  rows_join from (suc n) =
      let e : from + suc n ≡ from + n + 1 = omega arith in
      let g : suc n ≡ n + 1 = omega arith in
      rw (e, g) (fold_more _ _ n ∙ ap (λ (s : Totals). row_of max2 (λ (x : ℕ). moments_at ker width height a b x (from + n)) s width) (rows_join from n)
      ∙ sym (fold_more _ no_totals (from + n)))

-- the same from views that have the same moments in these rows
pub rows_ext : (max2 : Float) (ker : List ℕ) (width height : ℕ) (a b a' b' : ℕ → ℕ → ℕ) (t : Totals) (from n : ℕ)
    → ((i x : ℕ) → i < n → moments_at ker width height a b x (from + i) ≡ moments_at ker width height a' b' x (from + i))
    → rows_from max2 ker width height a b t from n ≡ rows_from max2 ker width height a' b' t from n
unfolding rows_from
rows_ext max2 ker width height a b a' b' t from n h =
    fold_ext _ _ t n (λ s i l. fold_ext _ _ s width (λ u x m. ap (with_centre max2 u) (h i x l)))

-- ---- how many rows are scored
pub scored_before : (r height off : ℕ) → r < height → scored_after r height off ≡ r - off
unfolding scored_after
scored_before r height off l = simp (ne_eqb r height (ne_of_lt l))

pub scored_last : (r height off : ℕ) → r ≡ height → scored_after r height off ≡ height
unfolding scored_after
scored_last r height off e = simp (eq-eqb r height e)

pub scored_most : (r height off : ℕ) → r ≤ height → scored_after r height off ≤ height
scored_most r height off l = go (dec_lt r height)
  where
    go : Dec (r < height) → scored_after r height off ≤ height
    go (yes m) = omega (arith, scored_before r height off m)
    go (no m) = omega (arith, scored_last r height off (omega arith))

pub scored_grows : (r height off : ℕ) → r < height → scored_after r height off ≤ scored_after (r + 1) height off
scored_grows r height off l = go (dec_lt (r + 1) height)
  where
    go : Dec (r + 1 < height) → scored_after r height off ≤ scored_after (r + 1) height off
    go (yes m) = omega (arith, scored_before r height off l, scored_before (r + 1) height off m)
    go (no m) = omega (arith, scored_before r height off l, scored_last (r + 1) height off (omega arith))

-- once `upto` rows have come, all that a centre row y needs and none that the ring has lost, its moments are those of the planes
ring_moments : (ker : List ℕ) (width height : ℕ) (s : List ℤ) (L upto y : ℕ) (a b : ℕ → ℕ → ℕ) → Shows s width L a b upto
    → ((r : ℕ) → r < height → r ≤ y + length ker / 2 → r < upto) → upto ≤ y + length ker / 2 + 1 → 2 * (length ker / 2) + 1 ≤ L → (x : ℕ)
    → moments_at ker width height (ring_a s width L) (ring_b s width L) x y ≡ moments_at ker width height a b x y
ring_moments ker width height s L upto y a b h come kept wide x =
    moments_near ker width height (ring_a s width L) a (ring_b s width L) b x y
    (λ r c k l m n. h.first r c (come r k n) (omega arith) l)
    (λ r c k l m n. h.second r c (come r k n) (omega arith) l)

-- ---- the step: row r has come, the ring shows the rows below r + 1, and the totals were those of the rows scored so far
module _ (max2 : Float) (ker : List ℕ) (width height : ℕ) (a b : ℕ → ℕ → ℕ) (new : List ℤ) (L r : ℕ) (shows : Shows new width L a b (r + 1))
    (lines : 2 * (length ker / 2) + 1 ≤ L) (inside : r < height) where
  pub fed_step : (t : Totals) (from upto : ℕ) → t ≡ totals_of max2 ker width height a b from → from ≡ scored_after r height (length ker / 2)
      → upto ≡ scored_after (r + 1) height (length ker / 2)
      → rows_from max2 ker width height (ring_a new width L) (ring_b new width L) t from (upto - from) ≡ totals_of max2 ker width height a b upto
  fed_step t from upto e f u = go (dec_lt (r + 1) height)
    where
      below : from ≡ r - length ker / 2
      below = f ∙ scored_before r height (length ker / 2) inside

      all : from ≤ upto → ((i q : ℕ) → i < upto - from → q < height → q ≤ from + i + length ker / 2 → q < r + 1)
          → rows_from max2 ker width height (ring_a new width L) (ring_b new width L) t from (upto - from) ≡ totals_of max2 ker width height a b upto
      all l come =
          let sum : from + (upto - from) ≡ upto = omega arith in
          rows_ext max2 ker width height (ring_a new width L) (ring_b new width L) a b t from (upto - from)
          (λ i x m. ring_moments ker width height new L (r + 1) (from + i) a b shows (λ q. come i q m) (omega (arith, below)) lines x)
          ∙ ap (λ (v : Totals). rows_from max2 ker width height a b v from (upto - from)) e
          ∙ rows_join max2 ker width height a b from (upto - from)
          ∙ ap (totals_of max2 ker width height a b) sum

      go : Dec (r + 1 < height)
          → rows_from max2 ker width height (ring_a new width L) (ring_b new width L) t from (upto - from) ≡ totals_of max2 ker width height a b upto
      go (yes l) =
          let top = u ∙ scored_before (r + 1) height (length ker / 2) l in
          all (omega (arith, below, top)) (λ i q m n o. omega (arith, below, top))
      go (no l) =
          let last : r + 1 ≡ height = omega arith in
          let top = u ∙ scored_last (r + 1) height (length ker / 2) last in
          all (omega (arith, below, top)) (λ i q m n o. omega (arith, last))

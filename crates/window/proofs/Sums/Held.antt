-- What column sums in scratch say: the moments made from them are those of the definition. Assumes nothing.
use mathlib.Core.Path.{◌≡◌, refl, ap, ◌∙◌}
use mathlib.Core.List.{List, ◌++◌}
use Prim.Native.Nat.{ℕ, ◌+◌, ◌-◌, ◌*◌, ◌/◌, ◌%◌, ◌≤◌, ◌<◌, ◌^◌}
use native.Mathlib.Nat.{le_trans, le_refl, zero-add}
use native.Mathlib.Decide.{dec_lt}
use native.Mathlib.Omega.{arith}
use borrow.Rule.Slice.PartMut.{put_mid, post_of}
use borrow.Author.Count.{below_none}
use lib.Dec.{lit<, lit≤}
use lib.IntN.{ℤ, pos, nat_abs}
use lib.ListN.{length, set, take, drop, replicate, length-drop, length-replicate, get_or-replicate, get_or-eq_default, get_or-append}
use lib.Seq.{get_or-append-add, get_or-take, get_or-drop, length-take-le}
use Rattle.plane.proofs.Sums.{sum_ext}
use Rattle.kernel.specs.Kernel.{tap}
use Rattle.window.specs.Moments.{clipped, moment_at, moments_at, most_sample}
use Rattle.window.specs.Inner.Parts.{part_of, window_of, weight_of, across_of, Kernel, quant_of}
use Rattle.window.specs.Inner.Columns.{at_z, cell_of, column_to, column_at, columns_of, Holds, Put, Margins, ColumnSum, ColumnSums, moments_in}
use Rattle.window.proofs.Sums.Column.{column_fits}
use Rattle.window.specs.declared.FiveSums.{FiveSums}
use Rattle.window.proofs.Sums.Windows.{clipped_in, clipped_below, clipped_above, part_le}
use Rattle.window.proofs.Centre.Separable.{separable, weights}
use Rattle.window.proofs.Sums.Five.{quant_le, column_room}
use Rattle.window.proofs.Sums.Stores.{put_column}

-- ---- a part from a on, of k places, has come back as ys: the places in it, before it and after it
module _ (a k : ℕ) (xs ys : List ℤ) (room : a + k ≤ length xs) (same : length ys ≡ k) where
  before : length (take a xs) ≡ a
  before = length-take-le a xs (omega arith)

  pub put_in : (i : ℕ) → i < k → at_z (put_mid a k xs ys) (a + i) ≡ at_z ys i
  put_in i h =
      rw before at (get_or-append-add (take a xs) (ys ++ post_of a k xs) i (pos 0)) ∙ get_or-append ys (post_of a k xs) (pos 0) i (omega arith)

  pub put_before : (p : ℕ) → p < a → at_z (put_mid a k xs ys) p ≡ at_z xs p
  put_before p h =
      get_or-append (take a xs) (ys ++ post_of a k xs) (pos 0) p (omega (arith, before)) ∙ get_or-take a xs p (pos 0) h

  pub put_after : (p : ℕ) → a + k ≤ p → at_z (put_mid a k xs ys) p ≡ at_z xs p
  put_after p h =
      let e : a + (k + (p - (a + k))) ≡ p = omega arith in
      rw (before, e) at (get_or-append-add (take a xs) (ys ++ post_of a k xs) (k + (p - (a + k))) (pos 0))
      ∙ rw same at (get_or-append-add ys (post_of a k xs) (p - (a + k)) (pos 0))
      ∙ get_or-drop k (drop a xs) _ (pos 0) ∙ get_or-drop a xs _ (pos 0) ∙ ap (λ (n : ℕ). at_z xs n) e

-- a part that is lent has as many places as it asks for
pub part_length : (a k : ℕ) (xs : List ℤ) → a + k ≤ length xs → length (take k (drop a xs)) ≡ k
part_length a k xs room = length-take-le k (drop a xs) (simp length-drop (omega arith))

-- ---- the columns stand between their margins
module _ (s : List ℤ) (ker : List ℕ) (width height : ℕ) (a b : ℕ → ℕ → ℕ) (y : ℕ) (margins : Margins s ker width)
    (between : (i : ℕ) → i < 5 * width → at_z s (5 * (length ker / 2) + i) ≡ pos (column_at ker height a b y i)) where
  abbrev start : ℕ
  start = 5 * (length ker / 2)

  -- what zero and every column's place has, every place has
  every_place : (P : ℤ → Type 0) → P (pos 0) → ((i : ℕ) → i < 5 * width → P (pos (column_at ker height a b y i))) → (j : ℕ) → P (at_z s j)
  every_place P none some j = go (dec_lt j start) (dec_lt j (start + 5 * width))
    where
      go : Dec (j < start) → Dec (j < start + 5 * width) → P (at_z s j)
      go (yes m) d = rw (margins.left j m) none
      go (no m) (no n) = rw (margins.right j (omega arith)) none
      go (no m) (yes n) = let e : start + (j - start) ≡ j = omega arith in rw (rw e at (between (j - start) (omega arith))) (some (j - start) (omega arith))

  -- so all of them can be read
  pub standing_sums : Kernel ker → ((r c : ℕ) → r < height → c < width → a r c ≤ most_sample)
      → ((r c : ℕ) → r < height → c < width → b r c ≤ most_sample) → (n : ℕ) → ColumnSums s n
  standing_sums r sa sb n j l =
      every_place ColumnSum (record { sign = tt; low = lit≤ tt }) (λ i (q : i < 5 * width).
      record {
        sign = tt;
        low = le_trans
            (part_le ker height _ y (2 ^ 40) r
            (λ k f g d. quant_le (i % 5) _ _ (sa _ (i / 5) (omega arith) (omega arith)) (sb _ (i / 5) (omega arith) (omega arith))) (length ker) (le_refl _))
            column_room;
      }) j

  -- sum m of column c, as a window along the row sees it
  seen : (m c : ℕ) → m < 5
      → cell_of s m c ≡ clipped (length ker / 2) width (λ (i : ℕ). window_of ker height (λ (r : ℕ). quant_of m (a r i) (b r i)) y) c
  seen m c l = go (dec_lt c (length ker / 2)) (dec_lt c (length ker / 2 + width))
    where
      go : Dec (c < length ker / 2) → Dec (c < length ker / 2 + width)
          → cell_of s m c ≡ clipped (length ker / 2) width (λ (i : ℕ). window_of ker height (λ (r : ℕ). quant_of m (a r i) (b r i)) y) c
      go (yes u) d = rw (clipped_below (length ker / 2) width _ c u) (ap nat_abs (margins.left (5 * c + m) (omega arith)))
      go (no u) (no v) =
          rw (clipped_above (length ker / 2) width _ c (omega arith)) (ap nat_abs (margins.right (5 * c + m) (omega arith)))
      go (no u) (yes v) =
          let i = c - length ker / 2 in
          let e : start + (5 * i + m) ≡ 5 * c + m = omega arith in
          let p : (5 * i + m) % 5 ≡ m = omega arith in
          let q : (5 * i + m) / 5 ≡ i = omega arith in
          rw (clipped_in (length ker / 2) width _ c (omega arith) v)
          (ap nat_abs (rw (e, p, q) at (between (5 * i + m) (omega arith))))

  -- sum m at x
  moment_same : (m x : ℕ) → m < 5 → across_of ker (cell_of s m) x ≡ moment_at ker width height (λ (r c : ℕ). quant_of m (a r c) (b r c)) x y
  unfolding across_of part_of
  moment_same m x l =
      sum_ext _ _ (length ker) (λ k n. ap (λ (v : ℕ). tap ker k * v) (seen m (x + k) l))
      ∙ separable ker width height (λ (r c : ℕ). quant_of m (a r c) (b r c)) x y

  -- the moments made from them are those of the definition
  pub standing_moments : (x : ℕ) → moments_in ker s width (weight_of ker height y) x ≡ moments_at ker width height a b x y
  unfolding moments_in
  standing_moments x =
      simp (
        moment_same 0 x (lit< tt),
        moment_same 1 x (lit< tt),
        moment_same 2 x (lit< tt),
        moment_same 3 x (lit< tt),
        moment_same 4 x (lit< tt),
        weights ker width height a b x y,
      )

-- ---- columns that were put between margins
module _ (s cols : List ℤ) (k : ℕ) (ker : List ℕ) (width height : ℕ) (a b : ℕ → ℕ → ℕ) (y : ℕ) (held : Holds cols (5 * width) ker height a b y)
    (old : Margins s ker width) (room : 5 * columns_of ker width ≤ length s) (count : k ≡ 5 * width) (same : length cols ≡ k) where
  abbrev now' : List ℤ
  now' = put_mid (5 * (length ker / 2)) k s cols

  -- the margins are as they were
  pub margins_kept : Margins now' ker width
  margins_kept =
      record {
        left = λ j l. put_before (5 * (length ker / 2)) k s cols (omega arith) same j l ∙ old.left j l;
        right = λ j l. put_after (5 * (length ker / 2)) k s cols (omega arith) same j (omega arith) ∙ old.right j l;
      }

  -- a place between them is a column's
  between : (i : ℕ) → i < 5 * width → at_z now' (5 * (length ker / 2) + i) ≡ pos (column_at ker height a b y i)
  unfolding Holds
  between i l = put_in (5 * (length ker / 2)) k s cols (omega arith) same i (omega arith) ∙ held i l

  pub all_sums : Kernel ker → ((r c : ℕ) → r < height → c < width → a r c ≤ most_sample)
      → ((r c : ℕ) → r < height → c < width → b r c ≤ most_sample) → ColumnSums now' (5 * columns_of ker width)
  all_sums r sa sb = standing_sums now' ker width height a b y margins_kept between r sa sb (5 * columns_of ker width)

  pub moments_same : (x : ℕ) → moments_in ker now' width (weight_of ker height y) x ≡ moments_at ker width height a b x y
  moments_same = standing_moments now' ker width height a b y margins_kept between

-- all zero, so the margins are
pub zero_at : (s : List ℤ) (n : ℕ) → s ≡ replicate n (pos 0) → (j : ℕ) → at_z s j ≡ pos 0
zero_at s n e j = go (dec_lt j n)
  where
    go : Dec (j < n) → at_z s j ≡ pos 0
    go (yes l) = rw e (get_or-replicate n j (pos 0) (pos 0) l)
    go (no l) = rw e (get_or-eq_default (replicate n (pos 0)) (pos 0) (omega (arith, length-replicate n (pos 0))))

-- ---- one column more, after those before it
module _ (ker : List ℕ) (height : ℕ) (a b : ℕ → ℕ → ℕ) (y x : ℕ) where
  pub holds_more : (s s' : List ℤ) (t : FiveSums)
      → s' ≡ set (set (set (set (set s (5 * x) (pos t.mux)) (5 * x + 1) (pos t.muy)) (5 * x + 2) (pos t.x2))
      (5 * x + 3) (pos t.xy)) (5 * x + 4) (pos t.y2)
      → t ≡ column_to ker height a b x y (length ker)
      → Holds s (5 * x) ker height a b y → 5 * x + 5 ≤ length s → Holds s' (5 * (x + 1)) ker height a b y
  unfolding Holds
  holds_more s s' t e f held room j l =
      let before : Put s s 0 (5 * x) (column_at ker height a b y) =
      record { there = λ i m. rw (zero-add i) (held i m); before = below_none _; after = λ i m. refl } in
      rw (zero-add j) at ((put_column ker height a b y x s s s' 0 t before (rw (zero-add (5 * x)) e) f (omega arith)).there j l)

  pub holds_none : (s : List ℤ) → Holds s (5 * 0) ker height a b y
  unfolding Holds
  holds_none s = below_none _

-- what the loop that fills a row rests on
pub ruleset filled_steps = (holds_none, holds_more, column_fits)

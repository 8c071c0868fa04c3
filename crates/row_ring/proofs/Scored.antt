-- A centre row scored from the ring: stores past the ring leave it as it was; the columns stand there between margins of zeros, and are zero again
-- afterwards. Assumes nothing.
use mathlib.Core.Path.{◌≡◌, sym, ap, ◌∙◌}
use mathlib.Core.List.{List}
use Prim.Native.Nat.{ℕ, ◌+◌, ◌-◌, ◌*◌, ◌/◌, ◌≤◌, ◌<◌}
use native.Mathlib.Nat.{le_refl}
use native.Mathlib.Decide.{dec_lt}
use native.Mathlib.Omega.{arith}
use borrow.Rule.Slice.PartMut.{put_mid}
use lib.Ieee.{Float}
use lib.IntN.{ℤ, pos}
use lib.ListN.{length, take, drop, replicate, length-drop}
use lib.Seq.{get_or-drop, take_all}
use Rattle.number.proofs.Folds.{fold_ext}
use Rattle.window.specs.Moments.{moments_at, most_sample}
use Rattle.window.specs.Inner.Parts.{Kernel, weight_of}
use Rattle.window.specs.Inner.Columns.{at_z, column_to, column_at, Margins, ColumnSums, moments_in, Put}
use Rattle.window.proofs.Sums.Column.{column_ext}
use Rattle.window.proofs.Sums.Held.{put_in, put_before, put_after, zero_at, standing_sums, standing_moments}
use Rattle.ssim.specs.declared.Totals.{Totals}
use Rattle.ssim.specs.Score.{with_centre, row_of}
use Rattle.row_ring.specs.Ring.{first_of, second_of, place_at, ring_a, ring_b}
use Rattle.row_ring.proofs.Rings.{slot_inside}

-- ---- stores past the ring leave its columns as they were
module _ (old new : List ℤ) (width L n : ℕ) (some : 0 < L) (ring : L * width ≤ n) (same : (i : ℕ) → i < n → at_z new i ≡ at_z old i) where
  pub ring_a_lem : (r c : ℕ) → c < width → ring_a new width L r c ≡ ring_a old width L r c
  unfolding ring_a
  ring_a_lem r c l = ap first_of (same (place_at width L r c) (omega (arith, slot_inside width L r n some ring)))

  pub ring_b_lem : (r c : ℕ) → c < width → ring_b new width L r c ≡ ring_b old width L r c
  unfolding ring_b
  ring_b_lem r c l = ap second_of (same (place_at width L r c) (omega (arith, slot_inside width L r n some ring)))

  pub column_still : (ker : List ℕ) (height x y : ℕ) → x < width
      → column_to ker height (ring_a new width L) (ring_b new width L) x y (length ker) ≡ column_to ker height (ring_a old width L) (ring_b old width L) x y (length ker)
  column_still ker height x y l = column_ext ker height _ _ _ _ x y (length ker) (λ r m. ring_a_lem r x l) (λ r m. ring_b_lem r x l)

-- a part that goes on to the end
abbrev pub rest_of : ℕ → List ℤ → List ℤ
rest_of n l = take (length l - n) (drop n l)

rest_is : (n : ℕ) (l : List ℤ) → rest_of n l ≡ drop n l
rest_is n l = take_all (length l - n) (drop n l) (simp length-drop (le_refl _))

pub rest_length : (n : ℕ) (l : List ℤ) → length (rest_of n l) ≡ length l - n
rest_length n l = ap length (rest_is n l) ∙ length-drop n l

module _ (old new : List ℤ) (ker : List ℕ) (width height y n : ℕ) (a b : ℕ → ℕ → ℕ) (zero : (j : ℕ) → n ≤ j → at_z old j ≡ pos 0)
    (p : Put old new (n + 5 * (length ker / 2)) (5 * width) (column_at ker height a b y)) where
  past : (j : ℕ) → at_z (drop n new) j ≡ at_z new (n + j)
  past j = get_or-drop n new j (pos 0)

  margins : Margins (drop n new) ker width
  margins =
      record {
        left = λ j l. past j ∙ p.before (n + j) (omega arith) ∙ zero (n + j) (omega arith);
        right = λ j l. past j ∙ p.after (n + j) (omega arith) ∙ zero (n + j) (omega arith);
      }

  between : (i : ℕ) → i < 5 * width → at_z (drop n new) (5 * (length ker / 2) + i) ≡ pos (column_at ker height a b y i)
  between i l =
      let e : n + (5 * (length ker / 2) + i) ≡ n + 5 * (length ker / 2) + i = omega arith in
      past (5 * (length ker / 2) + i) ∙ ap (λ (q : ℕ). at_z new q) e ∙ p.there i l

  pub ready : Kernel ker → ((r c : ℕ) → a r c ≤ most_sample) → ((r c : ℕ) → b r c ≤ most_sample) → (k : ℕ) → ColumnSums (rest_of n new) k
  ready r sa sb k = rw (rest_is n new) (standing_sums (drop n new) ker width height a b y margins between r (λ i c l m. sa i c) (λ i c l m. sb i c) k)

  pub row_scored : (max2 : Float) (t : Totals)
      → row_of max2 (moments_in ker (rest_of n new) width (weight_of ker height y)) t width
      ≡ row_of max2 (λ (x : ℕ). moments_at ker width height a b x y) t width
  row_scored max2 t =
      rw (rest_is n new)
      (fold_ext _ _ _ width (λ u x l. ap (with_centre max2 u) (standing_moments (drop n new) ker width height a b y margins between x)))

  -- the columns cleared: all is as it was
  pub row_cleared : (to k c : ℕ) (ys : List ℤ) → to ≡ n + 5 * (length ker / 2) → k ≡ 5 * width → to + k ≤ length new → length ys ≡ k
      → ys ≡ replicate c (pos 0) → (i : ℕ) → at_z (put_mid to k new ys) i ≡ at_z old i
  row_cleared to k c ys e f room same none i = go (dec_lt i to) (dec_lt i (to + k))
    where
      go : Dec (i < to) → Dec (i < to + k) → at_z (put_mid to k new ys) i ≡ at_z old i
      go (yes l) d = put_before to k new ys room same i l ∙ p.before i (omega arith)
      go (no l) (no m) = put_after to k new ys room same i (omega arith) ∙ p.after i (omega arith)
      go (no l) (yes m) =
          let g : to + (i - to) ≡ i = omega arith in
          rw g at (put_in to k new ys room same (i - to) (omega arith)) ∙ zero_at ys c none (i - to) ∙ sym (zero i (omega arith))

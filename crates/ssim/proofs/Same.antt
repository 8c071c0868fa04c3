-- A row scored from its column sums is the row of the definition. Assumes nothing.
use mathlib.Core.Path.{◌≡◌, sym, ap, ◌∙◌}
use mathlib.Core.List.{List}
use Prim.Native.Nat.{ℕ, ◌+◌, ◌*◌, ◌/◌, ◌≤◌}
use lib.Ieee.{Float}
use lib.IntN.{ℤ}
use lib.ListN.{length}
use borrow.Rule.Slice.PartMut.{put_mid}
use Rattle.number.proofs.Folds.{fold_more, fold_none, fold_ext}
use Rattle.window.specs.Inner.Parts.{weight_of}
use Rattle.window.specs.Inner.Columns.{columns_of, Holds, Margins, moments_in}
use Rattle.window.proofs.Sums.Held.{moments_same}
use Rattle.ssim.specs.Score.{with_centre, row_of, no_totals, totals_of}

module _ (max2 : Float) (ker : List ℕ) (width height : ℕ) (a b : ℕ → ℕ → ℕ) where
  -- one row more, from its columns put back between their margins
  pub totals_more : (s cols : List ℤ) (k y : ℕ) → Holds cols (5 * width) ker height a b y → Margins s ker width
      → 5 * columns_of ker width ≤ length s → k ≡ 5 * width → length cols ≡ k
      → row_of max2 (moments_in ker (put_mid (5 * (length ker / 2)) k s cols) width (weight_of ker height y)) (totals_of max2 ker width height a b y) width
      ≡ totals_of max2 ker width height a b (y + 1)
  unfolding totals_of
  totals_more s cols k y held old room count same =
      fold_ext _ _ _ width (λ t x l. ap (with_centre max2 t) (moments_same s cols k ker width height a b y held old room count same x))
      ∙ sym (fold_more _ no_totals y)

  pub totals_none : totals_of max2 ker width height a b 0 ≡ no_totals
  unfolding totals_of
  totals_none = fold_none _ _

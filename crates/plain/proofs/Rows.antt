-- The totals, one row of centres after another. Assumes nothing.
use mathlib.Core.Path.{◌≡◌, sym}
use mathlib.Core.List.{List}
use Prim.Native.Nat.{ℕ, ◌+◌}
use lib.Ieee.{Float}
use Rattle.number.proofs.Folds.{fold_none, fold_more}
use Rattle.window.specs.Moments.{moments_at}
use Rattle.ssim.specs.Score.{row_of, no_totals, totals_of}

module _ (max2 : Float) (ker : List ℕ) (width height : ℕ) (a b : ℕ → ℕ → ℕ) where
  pub totals_none : no_totals ≡ totals_of max2 ker width height a b 0
  unfolding totals_of
  totals_none = sym (fold_none _ _)

  pub totals_more : (y : ℕ)
      → row_of max2 (λ (x : ℕ). moments_at ker width height a b x y) (totals_of max2 ker width height a b y) width
      ≡ totals_of max2 ker width height a b (y + 1)
  unfolding totals_of
  totals_more y = sym (fold_more _ no_totals y)

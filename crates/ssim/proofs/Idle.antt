-- Idle taps change no score: who takes them off has, bit for bit, the pair that the rule gives with them. Assumes nothing.
use mathlib.Core.Path.{◌≡◌, sym, ap, ◌∙◌}
use mathlib.Core.Bool.{true}
use mathlib.Core.List.{List}
use Prim.Native.Nat.{ℕ}
use lib.Ieee.{Float}
use Rattle.number.proofs.Folds.{fold_ext}
use Rattle.plane.specs.Plane.{Planes}
use Rattle.kernel.specs.Kernel.{lent_total, lawful}
use Rattle.kernel.proofs.Idle.{padded, but_ends, mended}
use Rattle.window.proofs.Idle.{padded_moments}
use Rattle.ssim.specs.declared.Totals.{Totals}
use Rattle.ssim.specs.Score.{with_centre, totals_of}
use Rattle.ssim.specs.Answer.{pair_of, ssim_score}

module _ (k : ℕ) (ker : List ℕ) where
  padded_totals : (width height : ℕ) (a b : ℕ → ℕ → ℕ) (max2 : Float) (n : ℕ)
      → totals_of max2 (padded k ker) width height a b n ≡ totals_of max2 ker width height a b n
  unfolding totals_of
  padded_totals width height a b max2 n =
      fold_ext _ _ _ n (λ t y l. fold_ext _ _ _ width (λ s x m. ap (with_centre max2 s) (padded_moments k ker width height a b x y)))

  pub padded_score : (p : Planes) → ssim_score p (padded k ker) ≡ ssim_score p ker
  padded_score p = ap (λ (t : Totals). pair_of t) (padded_totals _ _ _ _ _ _)

-- so in a kernel that its ends alone make unlawful there is a lawful one, which scores the same
pub mended_score : (ker : List ℕ) → but_ends lent_total ker ≡ true
    → (inner : List ℕ) × (lawful lent_total inner ≡ true) × ((p : Planes) → ssim_score p inner ≡ ssim_score p ker)
mended_score ker e =
    let found = mended lent_total ker e in
    (found.1, found.3, λ p. sym (padded_score found.0 found.1 p) ∙ ap (ssim_score p) (sym found.2))

-- Padding is never read: SSIM is the same for planes whose visible samples agree. Assumes nothing.
use mathlib.Core.Path.{◌≡◌, ap}
use mathlib.Core.List.{List}
use Prim.Native.Nat.{ℕ}
use lib.Ieee.{Float}
use lib.IntN.{ℤ}
use lib.ListN.{length}
use Rattle.number.proofs.Folds.{fold_ext}
use Rattle.plane.specs.Plane.{Size, Plane, planes_of, sample_at}
use Rattle.plane.specs.Tests.{layout_tests}
use Rattle.plane.specs.Inner.Lawful.{Alike, Equivalent}
use Rattle.plane.proofs.Exchange.{samples_alike}
use Rattle.window.proofs.Visible.{Same, moments_ext}
use Rattle.ssim.specs.declared.Totals.{Totals}
use Rattle.ssim.specs.Score.{with_centre, totals_of}
use Rattle.ssim.specs.Answer.{pair_of, ssim_score, ssim_refusal, ssim_of}

pub totals_ext : (ker : List ℕ) (width height : ℕ) (a a' b b' : ℕ → ℕ → ℕ) → Same width height a a' → Same width height b b'
    → (max2 : Float) (n : ℕ) → totals_of max2 ker width height a b n ≡ totals_of max2 ker width height a' b' n
unfolding totals_of
totals_ext ker width height a a' b b' p q max2 n =
    fold_ext _ _ _ n (λ t y k. fold_ext _ _ _ width (λ s x l. ap (with_centre max2 s) (moments_ext ker width height a a' b b' p q x y)))

module _ (size : Size) (ker : List ℕ) where
  score_visible : (a b a' b' : Plane) → Alike size a a' → Alike size b b' → ssim_score (planes_of size a b) ker ≡ ssim_score (planes_of size a' b') ker
  score_visible a b a' b' p q =
      ap (λ (t : Totals). pair_of t)
      (totals_ext ker size.width size.height (sample_at a) (sample_at a') (sample_at b) (sample_at b') p q _ size.height)

  -- of all tests, 4 and 5 alone look at how a plane is lent
  refusal_visible : (lent : ℕ) {a b a' b' : Plane} → Equivalent size a a' → Equivalent size b b'
      → ssim_refusal (planes_of size a b) ker lent ≡ ssim_refusal (planes_of size a' b') ker lent
  unfolding layout_tests
  refusal_visible lent {a} {b} {a'} {b'} p q =
      rw (p.strides, q.strides, p.lengths, q.lengths, samples_alike size a a' p.alike, samples_alike size b b' q.alike)

  -- the whole answer, its refusals with it
  pub visible_only : (scratch : List ℤ) {a b a' b' : Plane} → Equivalent size a a' → Equivalent size b b'
      → ssim_of (planes_of size a b) ker scratch ≡ ssim_of (planes_of size a' b') ker scratch
  visible_only scratch {a} {b} {a'} {b'} p q =
      rw (refusal_visible (length scratch) p q, score_visible a b a' b' p.alike q.alike)

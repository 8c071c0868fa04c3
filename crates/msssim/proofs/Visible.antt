-- Padding is never read: the whole answer, its refusals with it, is the same for planes whose visible samples agree and which tests 4 and 5
-- judge alike. Assumes nothing.
use mathlib.Core.Path.{◌≡◌, ap}
use mathlib.Core.List.{List}
use Rattle.plane.specs.Plane.{Size, Plane, planes_of, max_of, sample_at}
use Rattle.plane.specs.Tests.{layout_tests}
use Rattle.plane.specs.Inner.Lawful.{Alike, Equivalent}
use Rattle.plane.proofs.Exchange.{samples_alike}
use Rattle.ssim.specs.declared.Ssim.{Ssim}
use Rattle.msssim.specs.Scale.{scale_count}
use Rattle.msssim.specs.Scratch.{Scratch}
use Rattle.msssim.specs.Answer.{five_of, msssim_score, msssim_refusal, msssim_of, scratch_after}
use Rattle.msssim.proofs.ScalePairs.{pairs_ext}

module _ (size : Size) where
  score_visible : (a b a' b' : Plane) → Alike size a a' → Alike size b b' → msssim_score (planes_of size a b) ≡ msssim_score (planes_of size a' b')
  score_visible a b a' b' p q =
      ap (λ (l : List Ssim). five_of l)
      (pairs_ext scale_count (max_of size.depth) size.width size.height (sample_at a) (sample_at a') (sample_at b) (sample_at b')
      p q)

  module _ {a b a' b' : Plane} (p : Equivalent size a a') (q : Equivalent size b b') (s : Scratch) where
    refusal_visible : msssim_refusal (planes_of size a b) s ≡ msssim_refusal (planes_of size a' b') s
    unfolding layout_tests
    refusal_visible =
        rw (p.strides, q.strides, p.lengths, q.lengths, samples_alike size a a' p.alike, samples_alike size b b' q.alike)

    pub visible_only : msssim_of (planes_of size a b) s ≡ msssim_of (planes_of size a' b') s
    visible_only = rw (refusal_visible, score_visible a b a' b' p.alike q.alike)

    -- and so is what it leaves in the scratch
    pub scratch_visible : scratch_after (planes_of size a b) s ≡ scratch_after (planes_of size a' b') s
    scratch_visible = rw refusal_visible

-- MS-SSIM's downscale asked for by itself: what is refused, and what stands in the lent 32-bit places afterwards. Definitions only.
use Rattle.std.specs.Prelude.{◌≡◌, List, [], ◌∷◌, ℕ, ◌*◌, ◌/◌, leb, length, Ok, Err}
use Rattle.refusal.specs.declared.Refusal.TheVariants as no
use Rattle.refusal.specs.First.{Verdict, first_broken}
use Rattle.plane.specs.Plane.{plane_of, at, sample_at}
use Rattle.plane.specs.Tests.{sides_suit, none_above}
use Rattle.window.specs.Moments.{most_sample}
use Rattle.downscale.specs.Summed.{summed_of}
use Rattle.downscale.specs.Inner.Longs.{Filled}

-- the lowest that applies of: 2, a side is 0 or above the limit; 5, fewer places than samples; 6, a place above the largest sample that the
-- sums of a scale are made for
abbrev pub downscale_refusal : ℕ → ℕ → List ℕ → Verdict
downscale_refusal width height longs =
    first_broken
    ((no.Size, sides_suit width height)
    ∷ (no.Short, leb (height * width) (length longs))
    ∷ (no.Sample, none_above most_sample (at longs) (length longs))
    ∷ [])

-- what then stands there: the scale below, row after row, and what stood after it; or what stood there
abbrev pub Later : Verdict → ℕ → ℕ → List ℕ → List ℕ → Type 0
Later (Ok _) width height old new = Filled old new (width / 2) (summed_of (sample_at (plane_of old width))) (height / 2)
Later (Err r) width height old new = new ≡ old

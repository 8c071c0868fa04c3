-- SCOPE, "When the desk says no": how much scratch MS-SSIM needs, and what stands there afterwards. Definitions only.
use Rattle.std.specs.Prelude.{Bool, ◌&&◌, List, ℕ, ◌*◌, leb, ℤ, pos, length}
use Rattle.plane.specs.Plane.{Size}
use Rattle.kernel.specs.Kernel.{fixed_kernel}
use Rattle.ssim.specs.Scratch.{scratch_places, cleared}

-- the scratch of a call: 64-bit places for the window sums, and 32-bit places for the scales of each plane
pub record Scratch : Type 0 where
  pub places : List ℤ
  pub a32 : List ℕ
  pub b32 : List ℕ

-- of three lists
abbrev pub scratch_of : List ℤ → List ℕ → List ℕ → Scratch
scratch_of places a32 b32 = record { places = places; a32 = a32; b32 = b32 }

-- what is needed of the first: as much as SSIM needs under a kernel of so many taps
abbrev pub places_needed : ℕ → ℕ
places_needed width = scratch_places width (length fixed_kernel)

-- and of the other two: a place to each sample
abbrev pub samples_needed : ℕ → ℕ → ℕ
samples_needed width height = width * height

-- 8: none of the three is too short
unfoldable pub scratch_suits : Size → Scratch → Bool
scratch_suits size s =
    let samples = samples_needed size.width size.height in
    leb (places_needed size.width) (length s.places) && (leb samples (length s.a32) && leb samples (length s.b32))

-- the needed part of each all zero, the rest as it was
abbrev pub all_cleared : Size → Scratch → Scratch
all_cleared size s =
    let samples = samples_needed size.width size.height in
    record {
      places = cleared (pos 0) (places_needed size.width) s.places;
      a32 = cleared 0 samples s.a32;
      b32 = cleared 0 samples s.b32;
    }

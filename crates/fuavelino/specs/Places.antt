-- What a caller lends beside planes, by the sides alone: how many places each score needs, and 0 where it takes no plane of such a side. Definitions only.
use Rattle.std.specs.Prelude.{Bool, cond, ◌&&◌, ℕ, leb}
use Rattle.plane.specs.Limits.{side_limit}
use Rattle.kernel.specs.Kernel.{most_taps}
use Rattle.ssim.specs.Scratch as ssim
use Rattle.locate.specs.Map.{tiles_of}
use Rattle.msssim.specs.Scratch.{places_needed, samples_needed}
use Rattle.msssim.specs.Answer.{least_side}

-- from the least to the most, both included
unfoldable pub within : ℕ → ℕ → ℕ → Bool
within least most n = leb least n && leb n most

-- SSIM: the 64-bit places for a width and a count of taps
unfoldable pub ssim_places : ℕ → ℕ → ℕ
ssim_places width taps = cond (within 1 side_limit width && within 1 most_taps taps) (ssim.scratch_places width taps) 0

-- MS-SSIM: the 64-bit places, and the 32-bit places of each plane
unfoldable pub msssim_places : ℕ → ℕ
msssim_places width = cond (within least_side side_limit width) (places_needed width) 0

unfoldable pub msssim_samples : ℕ → ℕ → ℕ
msssim_samples width height = cond (within least_side side_limit width && within least_side side_limit height) (samples_needed width height) 0

-- the error map: a 64-bit place for each tile
unfoldable pub error_map_places : ℕ → ℕ → ℕ
error_map_places width height = cond (within 1 side_limit width && within 1 side_limit height) (tiles_of width height) 0

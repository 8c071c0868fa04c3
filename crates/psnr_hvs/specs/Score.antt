-- SCOPE, "HVS, SSIM and scales", HVS: the blocks of two planes, the score, and the answer. Definitions only.
use Rattle.std.specs.Prelude.{Bool, true, false, List, ℕ, ◌+◌, ◌-◌, ◌*◌, ◌/◌, ◌%◌, ℤ, pos, Float, Result, Ok, Err}
use Rattle.std.specs.Float.Ieee.Scale.{finite}
use Rattle.refusal.specs.declared.Refusal.{Refusal}
use Rattle.refusal.specs.declared.Refusal.TheVariants.{NotFinite}
use Rattle.refusal.specs.First.{Verdict, unless_refused}
use Rattle.plane.specs.Plane.{Plane, Planes, sample_at, max_of}
use Rattle.plane.specs.Tests.{pair_refusal}
use Rattle.number.specs.Steps.{fold_to, list_to, ◌⊘◌, double}
use Rattle.number.specs.Literals.{zero_d}
use Rattle.dct.specs.Limits.{block_side, block_size}
use Rattle.hvs_block.specs.Tables.{csf_of, masks_of}
use Rattle.hvs_block.specs.Block.{with_block}
use Rattle.hvs_block.specs.declared.Kind.{Kind}

-- the step from one block to the next
abbrev pub block_step : ℕ
block_step = 7

-- blocks begin at 0, 7, 14 and so on, as long as they end inside: so many on a side (proofs/Blocks.antt, `starts`)
abbrev pub blocks_per_side : ℕ → ℕ
blocks_per_side side = (side - block_side) / block_step + 1

-- the block whose first sample is (x, y), row by row
abbrev pub sample_in : Plane → ℕ → ℕ → ℕ → ℤ
sample_in p x y k = pos (sample_at p (y + k / block_side) (x + k % block_side))

unfoldable pub block_at : Plane → ℕ → ℕ → List ℤ
block_at p x y = list_to (sample_in p x y) block_size

-- result, and then the blocks of both planes whose first sample is (x, y)
abbrev pub with_blocks : Planes → ℕ → ℕ → List (List Float) → List (List Float) → Float → Float
with_blocks p x y csf mask result = with_block (block_at p.a x y) (block_at p.b x y) csf mask result

-- result, and then n blocks of a row of blocks that begins at row y
unfoldable pub along_row : Planes → ℕ → List (List Float) → List (List Float) → Float → ℕ → Float
along_row p y csf mask result n = fold_to (λ (s : Float) (x : ℕ). with_blocks p (block_step * x) y csf mask s) result n

-- the first n rows of blocks
unfoldable pub down_rows : Planes → List (List Float) → List (List Float) → ℕ → Float
down_rows p csf mask n = fold_to (λ (s : Float) (y : ℕ). along_row p (block_step * y) csf mask s (blocks_per_side p.size.width)) zero_d n

-- all of them, divided by the count of their places, then by the square of sample_max
unfoldable pub hvs_score : Planes → Kind → Float
hvs_score p kind =
    let across = blocks_per_side p.size.width in
    let down = blocks_per_side p.size.height in
    let max = max_of p.size.depth in
    down_rows p (csf_of kind) (masks_of (csf_of kind)) down ⊘ double (block_size * (across * down)) ⊘ double (max * max)

-- ---- the answer

-- the lowest of 1 to 6 that applies: 3 by the side of a block
abbrev pub hvs_refusal : Planes → Verdict
hvs_refusal p = pair_refusal p block_side

-- 9 where the score is not finite
abbrev pub score_or9 : Bool → Float → Result Float Refusal
score_or9 true s = Ok s
score_or9 false s = Err NotFinite

-- the lowest of 1 to 6 that applies; where none does the score, or 9
unfoldable pub hvs_of : Planes → Kind → Result Float Refusal
hvs_of p kind = let s = hvs_score p kind in unless_refused (hvs_refusal p) (score_or9 (finite s) s)

-- Padding is never read: the score, and the whole answer, are the same for planes whose visible samples agree. Assumes nothing.
use mathlib.Core.Path.{◌≡◌, refl, ap}
use mathlib.Core.List.{List}
use Prim.Native.Nat.{ℕ, ◌+◌, ◌*◌, ◌/◌, ◌%◌, ◌≤◌}
use native.Mathlib.Omega.{arith}
use lib.IntN.{pos}
use lib.Ieee.{Float}
use lib.Ieee.Scale.{finite}
use Rattle.std.specs.Prelude.{Result, Ok, Err}
use Rattle.refusal.specs.declared.Refusal.{Refusal}
use Rattle.refusal.specs.First.{Verdict, unless_refused}
use Rattle.number.specs.Steps.{◌⊘◌, double}
use Rattle.number.proofs.Folds.{fold_ext}
use Rattle.number.proofs.Lists.{list_ext}
use Rattle.plane.specs.Plane.{Size, Plane, planes_of, both, max_of}
use Rattle.plane.specs.Inner.Lawful.{Alike, Equivalent}
use Rattle.plane.proofs.Exchange.{refusal_equivalent}
use Rattle.plane.proofs.Accept.{accepted}
use Rattle.dct.specs.Limits.{block_side, block_size}
use Rattle.hvs_block.specs.Tables.{csf_of, masks_of}
use Rattle.hvs_block.specs.declared.Kind.{Kind}
use Rattle.psnr_hvs.specs.Score.{block_step, blocks_per_side, sample_in, block_at, along_row, down_rows}
use Rattle.psnr_hvs.specs.Score.{hvs_refusal, hvs_score, score_or9, hvs_of}
use Rattle.psnr_hvs.proofs.Blocks.{ends}

-- the answer of a verdict and a score
abbrev answered : Verdict → Float → Result Float Refusal
answered v s = unless_refused v (score_or9 (finite s) s)

-- the score counts where nothing is refused
answered_ext : (v : Verdict) (s t : Float) → (v ≡ Ok tt → s ≡ t) → answered v s ≡ answered v t
answered_ext (Ok tt) s t h = ap (answered (Ok tt)) (h refl)
answered_ext (Err r) s t h = refl

module _ (size : Size) where
  -- a block that ends inside its plane
  block_ext : (a b : Plane) (x y : ℕ) → Alike size a b → x + block_side ≤ size.width → y + block_side ≤ size.height → block_at a x y ≡ block_at b x y
  unfolding block_at
  block_ext a b x y h i j =
      list_ext (sample_in a x y) (sample_in b x y) block_size
      (λ k l. ap pos (h (y + k / block_side) (x + k % block_side) (omega arith) (omega arith)))

  module _ (csf mask : List (List Float)) (a b a' b' : Plane) (p : Alike size a a') (q : Alike size b b')
      (w : block_side ≤ size.width) (h : block_side ≤ size.height) where
    row_ext : (y : ℕ) (s : Float) → y + block_side ≤ size.height
        → along_row (planes_of size a b) y csf mask s (blocks_per_side size.width) ≡ along_row (planes_of size a' b') y csf mask s (blocks_per_side size.width)
    unfolding along_row
    row_ext y s j =
        fold_ext _ _ _ (blocks_per_side size.width) (λ t x l.
        rw (block_ext a a' (block_step * x) y p (ends w l) j, block_ext b b' (block_step * x) y q (ends w l) j))

    rows_ext : down_rows (planes_of size a b) csf mask (blocks_per_side size.height) ≡ down_rows (planes_of size a' b') csf mask (blocks_per_side size.height)
    unfolding down_rows
    rows_ext = fold_ext _ _ _ (blocks_per_side size.height) (λ t y l. row_ext (block_step * y) t (ends h l))

  score_visible : (kind : Kind) (a b a' b' : Plane) → block_side ≤ size.width → block_side ≤ size.height
      → Alike size a a' → Alike size b b' → hvs_score (planes_of size a b) kind ≡ hvs_score (planes_of size a' b') kind
  unfolding hvs_score
  score_visible kind a b a' b' w h p q =
      ap (λ (s : Float). s ⊘ double (block_size * (blocks_per_side size.width * blocks_per_side size.height)) ⊘ double (max_of size.depth * max_of size.depth))
      (rows_ext (csf_of kind) (masks_of (csf_of kind)) a b a' b' p q w h)

  -- its refusals with it: beside visible samples only tests 4 and 5 look at how a plane is lent
  pub visible_only : (kind : Kind) {a b a' b' : Plane} → Equivalent size a a' → Equivalent size b b'
      → hvs_of (planes_of size a b) kind ≡ hvs_of (planes_of size a' b') kind
  unfolding hvs_of
  visible_only kind {a} {b} {a'} {b'} p q =
      let q' = planes_of size a' b' in
      rw (refusal_equivalent size block_side p q)
      (answered_ext (hvs_refusal q') (hvs_score (planes_of size a b) kind) (hvs_score q' kind) (λ z.
      let c = accepted size (both q') block_side z in
      score_visible kind a b a' b' c.sized.width_reaches c.sized.height_reaches p.alike q.alike))

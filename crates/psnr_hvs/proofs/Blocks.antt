-- The blocks of a plane: where they begin, how large their numbers are, and one more of them. Assumes nothing.
use mathlib.Core.Path.{◌≡◌, refl, sym, ap, ◌∙◌}
use mathlib.Core.Bool.{Bool, true, false}
use mathlib.Core.List.{List, [], ◌∷◌, ◌++◌, map}
use Prim.Native.Nat.{ℕ, zero, suc, ◌+◌, ◌-◌, ◌*◌, ◌/◌, ◌%◌, ◌≤◌, ◌<◌, ◌^◌}
use native.Mathlib.Omega.{arith}
use borrow.Author.Tests.{lt-ltb, le-ltb, ltb-true, ltb-false}
use native.Mathlib.Nat.{le_trans, lt_of_le_of_lt, mul-le-mul_left}
use lib.Dec.{ltb, lit<}
use lib.IntN.{ℤ}
use lib.ListN.{length, get_or}
use lib.Ieee.{Float}
use Rattle.plane.specs.Plane.{Size, Plane, Planes, at, sample_at, sample_limit}
use Rattle.plane.specs.Inner.Lawful.{Bounded}
use Rattle.plane.proofs.All.{at_value}
use Rattle.plane.proofs.Rows.{inside}
use Rattle.hvs_block.proofs.Numbers.{limit_small}
use Rattle.number.specs.Steps.{list_to}
use Rattle.number.proofs.Folds.{fold_more}
use Rattle.number.proofs.Lists.{list_length}
use Rattle.dct.specs.Limits.{block_side, block_size}
use Rattle.hvs_block.specs.Inner.Levels.{Sample, Samples}
use Rattle.psnr_hvs.specs.Score.{block_step, blocks_per_side, sample_in, block_at, with_blocks, along_row, down_rows}
use Rattle.psnr_hvs.specs.Inner.Blocks.{BlockFits}

-- ---- where they begin
-- the starts are those of the Rust's loop, 0, 7, 14 and so on below side - 7: k counts them, and as many are below as blocks_per_side says
pub starts : (side k : ℕ) → block_side ≤ side → ltb (block_step * k) (side - block_step) ≡ ltb k (blocks_per_side side)
starts side k l = go (ltb k (blocks_per_side side)) refl
  where
    go : (t : Bool) → ltb k (blocks_per_side side) ≡ t → ltb (block_step * k) (side - block_step) ≡ ltb k (blocks_per_side side)
    go true e = lt-ltb (block_step * k) (side - block_step) (omega (arith, ltb-true k (blocks_per_side side) e)) ∙ sym e
    go false e = le-ltb (block_step * k) (side - block_step) (omega (arith, ltb-false k (blocks_per_side side) e)) ∙ sym e

-- each ends inside its side
pub ends : {side k : ℕ} → block_side ≤ side → k < blocks_per_side side → block_step * k + block_side ≤ side
ends l h = omega arith

-- ---- what their numbers are
samples_more : (v : List ℤ) (a : ℤ) → Samples v → Sample a → Samples (v ++ (a ∷ []))
samples_more [] a h s = (s, tt)
samples_more (b ∷ v) a h s = (h.0, samples_more v a h.1 s)

samples_list : (f : ℕ → ℤ) (m : ℕ) → ((k : ℕ) → k < m → Sample (f k)) → Samples (list_to f m)
unfolding list_to
samples_list f zero h = tt
samples_list f (suc m) h =
    samples_more (list_to f m) (f m) (samples_list f m (λ (k : ℕ) (l : k < m). h k (omega arith))) (h m (omega arith))

pub block_length : (p : Plane) (x y : ℕ) → length (block_at p x y) ≡ block_size
unfolding block_at
block_length p x y = list_length (sample_in p x y) block_size

pub block_samples : (size : Size) (p : Plane) (x y : ℕ) → Bounded sample_limit size.width size.height p → BlockFits size x y
    → Samples (block_at p x y)
unfolding block_at
block_samples size p x y h i =
    samples_list (sample_in p x y) block_size
    (λ (k : ℕ) (l : k < block_size). record { above = tt; small = h.small (y + k / block_side) (x + k % block_side) (omega arith) (omega arith) })

-- the plane as far as a block that ends inside it
pub block_bounded : {size : Size} {p : Plane} {x y : ℕ} → Bounded sample_limit size.width size.height p → BlockFits size x y
    → Bounded sample_limit (x + block_side) (y + block_side) p
block_bounded {size} {p} {x} {y} h i =
    let rows : p.stride * (y + block_side - 1) ≤ p.stride * (size.height - 1) = mul-le-mul_left p.stride (omega (arith, i.down)) in
    record {
      long = omega (arith, h.long, rows, i.across);
      small = λ r c lr lc. h.small r c (omega (arith, i.down, lr)) (omega (arith, i.across, lc));
    }

-- place k of it
module _ {p : Plane} (x y k : ℕ) (b : Bounded sample_limit (x + block_side) (y + block_side) p) (l : k < 64) where
  pub place_inside : (y + k / 8) * p.stride + (x + k % 8) < length p.samples
  place_inside = inside p.stride b.long (omega arith) (omega arith)

  pub place_small : sample_at p (y + k / 8) (x + k % 8) < 2 ^ 31
  place_small = lt_of_le_of_lt (le_trans (b.small (y + k / 8) (x + k % 8) (omega arith) (omega arith)) limit_small) (lit< tt)

-- what a read of a sample gives
pub place_read : {S : Type 0} (value : S → ℕ) (samples : List S) {v : ℕ} {x : S} (i : ℕ) → x ≡ get_or samples i x → v ≡ value (get_or samples i x)
    → i < length samples → v ≡ at (map value samples) i
place_read value samples i e w l = w ∙ ap value (sym e) ∙ sym (at_value value samples i e l)

-- ---- one more block, and one more row of them
module _ (p : Planes) (csf mask : List (List Float)) where
  pub row_more : (y : ℕ) (a : Float) (x : ℕ)
      → along_row p y csf mask a (x + 1) ≡ with_blocks p (block_step * x) y csf mask (along_row p y csf mask a x)
  unfolding along_row
  row_more y a x = rw fold_more

  pub rows_more : (y : ℕ)
      → down_rows p csf mask (y + 1) ≡ along_row p (block_step * y) csf mask (down_rows p csf mask y) (blocks_per_side p.size.width)
  unfolding down_rows
  rows_more y = rw fold_more

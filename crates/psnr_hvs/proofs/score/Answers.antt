-- `score` adds up the blocks and divides twice. Assumes nothing.
use mathlib.Core.Path.{◌≡◌}
use Prim.Native.Nat.{ℕ, ◌*◌, ◌≤◌, ◌^◌}
use native.Mathlib.Omega.{arith}
use Rattle.plane.specs.Inner.Lawful.{Sized}
use Rattle.plane.specs.Plane.{Size, max_of}
use Rattle.plane.proofs.Depth.{depth_small}
use Rattle.psnr_hvs.specs.Score.{blocks_per_side, hvs_score}
use Rattle.psnr_hvs.proofs.Taken.{bounded, blocks_few, max_square}
use Rattle.psnr_hvs.proofs.score.Goals as goal

-- the two divisors, of planes that no test refuses
module _ {size : Size} {least : ℕ} (s : Sized size least) where
  few : {a b : ℕ} → a ≡ blocks_per_side size.width → b ≡ blocks_per_side size.height → a * b ≤ 2 ^ 28
  few p q = rw (p, q) (blocks_few size.width size.height s.width_most s.height_most)

  square : {m : ℕ} → m ≡ max_of size.depth → m * m ≤ 2 ^ 24
  square p = rw p (max_square size.wide size.depth s.depth_most)

pub down_rows-sum-requires : goal.down_rows-sum-requires
down_rows-sum-requires g c =
    let a = c.requires in
    record {
      block_side_le_width = (a.sized.width_reaches, a.sized.height_reaches);
      bounded_pair = bounded a;
    }

pub overflow_mul-blocks : goal.overflow_mul-blocks
overflow_mul-blocks g c = omega (arith, few c.requires.sized c.blocks_per_side.ensures c.blocks_per_side-2.ensures)

pub sample_max-max-requires : goal.sample_max-max-requires
sample_max-max-requires g c = omega (arith, c.requires.sized.depth_most, depth_small g.S.Stored.WIDE)

pub overflow_mul-blocks-2 : goal.overflow_mul-blocks-2
overflow_mul-blocks-2 g c = omega (arith, few c.requires.sized c.blocks_per_side.ensures c.blocks_per_side-2.ensures)

pub exact-requires : goal.exact-requires
exact-requires g c = omega (arith, few c.requires.sized c.blocks_per_side.ensures c.blocks_per_side-2.ensures)

pub overflow_mul-max : goal.overflow_mul-max
overflow_mul-max g c = omega (arith, square c.requires.sized c.sample_max-max.ensures)

pub exact-requires-2 : goal.exact-requires-2
exact-requires-2 g c = omega (arith, square c.requires.sized c.sample_max-max.ensures)

pub returns : goal.returns
unfolding hvs_score
returns g c = rw (
  c.exact-2.ensures,
  c.exact.ensures,
  c.sample_max-max.ensures,
  c.blocks_per_side-2.ensures,
  c.blocks_per_side.ensures,
  c.down_rows-sum.ensures,
  c.tables_of-tables.ensures.mask_value,
  c.tables_of-tables.ensures.csf_value,
)

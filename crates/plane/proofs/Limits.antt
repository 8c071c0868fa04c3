-- The limits, as later sums need them: all that proofs know of the numbers. Assumes nothing.
use mathlib.Core.Bool.{Bool, true, false}
use Prim.Native.Nat.{ℕ, ◌*◌, ◌^◌, ◌≤◌, ◌<◌}
use native.Mathlib.Nat.{mul-le-mul, lt_of_le_of_lt}
use lib.Dec.{lit≤, lit<}
use Rattle.plane.specs.Limits.{side_limit, stride_limit, most_depth}

pub side_small : side_limit ≤ 2 ^ 14
unfolding side_limit
side_small = lit≤ tt

pub stride_small : stride_limit ≤ 2 ^ 15
unfolding stride_limit
stride_small = lit≤ tt

-- words are the deepest
pub deepest : (wide : Bool) → most_depth wide ≤ most_depth true
unfolding most_depth
deepest true = lit≤ tt
deepest false = lit≤ tt

-- the samples of a plane can be counted
pub area_le : {width height : ℕ} → width ≤ side_limit → height ≤ side_limit → width * height ≤ side_limit * side_limit
area_le w h = mul-le-mul w h

pub area_fits : {width height : ℕ} → width ≤ side_limit → height ≤ side_limit → width * height < 2 ^ 64
unfolding side_limit
area_fits w h = lt_of_le_of_lt (area_le w h) (lit< tt)

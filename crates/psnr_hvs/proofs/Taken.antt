-- What planes that no test refuses give the score. Assumes nothing.
use mathlib.Core.Bool.{Bool}
use Prim.Native.Nat.{ℕ, ◌*◌, ◌≤◌, ◌^◌}
use native.Mathlib.Nat.{mul-le-mul, le_trans}
use native.Mathlib.Omega.{arith}
use Rattle.plane.specs.Limits.{side_limit, most_depth}
use Rattle.plane.specs.Plane.{Planes, max_of, sample_limit}
use Rattle.plane.specs.Inner.Lawful.{BoundedPair, AcceptedPair}
use Rattle.plane.proofs.Limits.{side_small, deepest}
use Rattle.plane.proofs.Depth.{max_grows, max_small}
use Rattle.psnr_hvs.specs.Score.{blocks_per_side}

pub bounded : {p : Planes} {least : ℕ} → AcceptedPair p least → BoundedPair sample_limit p
bounded {p} c =
    let top : max_of p.size.depth ≤ sample_limit = max_grows (le_trans c.sized.depth_most (deepest p.size.wide)) in
    let a = c.each.0.bounded in
    let b = c.each.1.0.bounded in
    record {
      first = record { long = a.long; small = λ (y x : ℕ) ly lx. le_trans (a.small y x ly lx) top };
      second = record { long = b.long; small = λ (y x : ℕ) ly lx. le_trans (b.small y x ly lx) top };
    }

-- the two divisors fit, and are exact
pub blocks_few : (width height : ℕ) → width ≤ side_limit → height ≤ side_limit → blocks_per_side width * blocks_per_side height ≤ 2 ^ 28
blocks_few width height w h =
    let a : blocks_per_side width ≤ 2 ^ 14 = omega (arith, side_small) in
    let b : blocks_per_side height ≤ 2 ^ 14 = omega (arith, side_small) in
    mul-le-mul a b

pub max_square : (wide : Bool) (depth : ℕ) → depth ≤ most_depth wide → max_of depth * max_of depth ≤ 2 ^ 24
max_square wide depth l = let m : max_of depth ≤ 2 ^ 12 = omega (arith, max_small wide l) in mul-le-mul m m

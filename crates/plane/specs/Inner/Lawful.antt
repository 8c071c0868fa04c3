-- SCOPE, "What a plane may be": what holds of planes that no test of Tests refuses, as facts. Functions that run after the
-- tests ask for these. Definitions only.
use Rattle.std.specs.Prelude.{◌≡◌, List, [], ◌∷◌, ℕ, ◌≤◌, ◌<◌, length}
use Rattle.plane.specs.Limits.{side_limit, stride_limit, least_depth, most_depth}
use Rattle.plane.specs.Plane.{Size, Plane, Planes, both, needed, max_of, sample_at}
use Rattle.plane.specs.Tests.{stride_suits, long_enough}

-- enough samples, and no visible one above `most`
pub record Bounded (most width height : ℕ) (p : Plane) : Type 0 where
  pub long : needed width height p.stride ≤ length p.samples
  pub small : (r c : ℕ) → r < height → c < width → sample_at p r c ≤ most

-- of both planes of a call
pub record BoundedPair (most : ℕ) (p : Planes) : Type 0 where
  pub first : Bounded most p.size.width p.size.height p.a
  pub second : Bounded most p.size.width p.size.height p.b

-- one plane: 4, 5 and 6
pub record Lawful (size : Size) (p : Plane) : Type 0 where
  pub stride_least : size.width ≤ p.stride
  pub stride_most : p.stride ≤ stride_limit
  pub bounded : Bounded (max_of size.depth) size.width size.height p

-- what all planes of a call share: 1, 2 and 3
pub record Sized (size : Size) (least : ℕ) : Type 0 where
  pub depth_least : least_depth size.wide ≤ size.depth
  pub depth_most : size.depth ≤ most_depth size.wide
  pub width_least : 1 ≤ size.width
  pub width_most : size.width ≤ side_limit
  pub height_least : 1 ≤ size.height
  pub height_most : size.height ≤ side_limit
  pub width_reaches : least ≤ size.width
  pub height_reaches : least ≤ size.height

-- P holds of each plane: `.0` of the first, `.1 .0` of the second, and so on
abbrev pub Each : (Plane → Type 0) → List Plane → Type 0
Each P [] = Unit {0}
Each P (p ∷ more) = P p × Each P more

-- all planes of a call, and what they share
pub record Accepted (size : Size) (planes : List Plane) (least : ℕ) : Type 0 where
  pub sized : Sized size least
  pub each : Each (Lawful size) planes

abbrev pub AcceptedPair : Planes → ℕ → Type 0
AcceptedPair p least = Accepted p.size (both p) least

-- the visible samples of two planes agree, whatever their strides, and whatever stands between and after their rows
abbrev pub Alike : Size → Plane → Plane → Type 0
Alike size a b = (r c : ℕ) → r < size.height → c < size.width → sample_at a r c ≡ sample_at b r c

-- and 4 and 5, the tests of how a plane is lent, say the same of both: nothing else of a plane counts
pub record Equivalent (size : Size) (a b : Plane) : Type 0 where
  pub strides : stride_suits size.width a.stride ≡ stride_suits size.width b.stride
  pub lengths : long_enough size a ≡ long_enough size b
  pub alike : Alike size a b

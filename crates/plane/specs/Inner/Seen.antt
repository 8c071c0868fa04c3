-- Planes as the code has them, and as the definitions see them. Definitions only.
use Rattle.std.specs.Prelude.{Bool, List, ℕ, ◌*◌, ◌≤◌, length, map, take, drop}
use Rattle.plane.specs.declared.Format.{Format}
use Rattle.plane.specs.declared.Plane as code
use Rattle.plane.specs.declared.Pair as two
use Rattle.plane.specs.Plane.{Size, size_of, Plane, plane_of, Planes, planes_of, needed}

-- what planes of bytes or of words share
abbrev pub sized : Bool → Format → Size
sized wide f = size_of wide f.width f.height f.depth

-- samples as the numbers that they are
module _ {S : Type 0} (value : S → ℕ) where
  abbrev pub seen : code.Plane S → Plane
  seen p = plane_of (map value p.samples.now) p.stride

  abbrev pub planes : Bool → two.Pair S → Planes
  planes wide p = planes_of (sized wide p.format) (seen p.a) (seen p.b)

-- row y, of so many samples, as a part of the samples
abbrev pub row_in : {S : Type 0} → List S → ℕ → ℕ → ℕ → List S
row_in samples stride width y = take width (drop (y * stride) samples)

-- a plane reaches far enough
abbrev pub Long : Size → Plane → Type 0
Long size p = needed size.width size.height p.stride ≤ length p.samples

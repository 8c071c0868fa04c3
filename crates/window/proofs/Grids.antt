-- Planes as the sums read them: those of a call, and samples that are small enough. Assumes nothing.
use Prim.Native.Nat.{ℕ, ◌≤◌}
use native.Mathlib.Nat.{le_trans}
use Rattle.plane.specs.Plane.{Plane}
use Rattle.plane.specs.Inner.Lawful.{Bounded}

-- what is below one bound is below a larger one
pub bounded_most : {most more width height : ℕ} {p : Plane} → Bounded most width height p → most ≤ more → Bounded more width height p
bounded_most h l = record { long = h.long; small = λ r c k m. le_trans (h.small r c k m) l }

-- The planes of an exported call, which is lent bytes or words, its parameters as they stand. Definitions only.
use Rattle.std.specs.Prelude.{Bool, List, ℕ}
use Rattle.std.specs.Borrow.{Bor}
use Rattle.plane.specs.Plane.{Planes, plane_of, size_of, planes_of}
use Rattle.better.specs.Better.{Contest, contest}

-- the two planes of most
unfoldable pub called : Bool → Bor (List ℕ) → Bor (List ℕ) → ℕ → ℕ → ℕ → ℕ → ℕ → Planes
called wide a b width height stride_a stride_b depth = planes_of (size_of wide width height depth) (plane_of a.now stride_a) (plane_of b.now stride_b)

-- an original and two candidates
unfoldable pub contested : Bool → Bor (List ℕ) → Bor (List ℕ) → Bor (List ℕ) → ℕ → ℕ → ℕ → ℕ → ℕ → ℕ → Contest
contested wide o a b width height stride_o stride_a stride_b depth = contest wide o a b width height stride_o stride_a stride_b depth

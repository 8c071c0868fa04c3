-- SCOPE, "When the desk says no", 1 to 6: each test, true where the number is not given, and their list. Definitions only.
use Rattle.std.specs.Prelude.{Bool, ◌&&◌, List, [], ◌∷◌, ◌++◌, ℕ, leb, length}
use Rattle.refusal.specs.declared.Refusal.{Refusal}
use Rattle.refusal.specs.declared.Refusal.TheVariants as no
use Rattle.refusal.specs.First.{Verdict, first_broken}
use Rattle.plane.specs.Limits.{side_limit, stride_limit, least_depth, most_depth}
use Rattle.plane.specs.Plane.{Size, Plane, Planes, both, max_of, sample_at, needed, all_to, every}

-- 1: the depth suits the sample width
unfoldable pub depth_suits : Bool → ℕ → Bool
depth_suits wide depth = leb (least_depth wide) depth && leb depth (most_depth wide)

-- 2: neither width nor height is 0 or above the limit
abbrev pub side_suits : ℕ → Bool
side_suits side = leb 1 side && leb side side_limit

unfoldable pub sides_suit : ℕ → ℕ → Bool
sides_suit width height = side_suits width && side_suits height

-- 3: no side is below the call's least; a call to which 3 does not belong has the least 0
unfoldable pub sides_reach : ℕ → ℕ → ℕ → Bool
sides_reach least width height = leb least width && leb least height

-- 4: the stride is neither below the width nor above the limit
unfoldable pub stride_suits : ℕ → ℕ → Bool
stride_suits width stride = leb width stride && leb stride stride_limit

-- 5: the plane is not too short
unfoldable pub long_enough : Size → Plane → Bool
long_enough size p = leb (needed size.width size.height p.stride) (length p.samples)

-- none of the first n values of f is above max
unfoldable pub none_above : ℕ → (ℕ → ℕ) → ℕ → Bool
none_above max f n = all_to (λ (i : ℕ). leb (f i) max) n

-- no visible sample of row r is above max
unfoldable pub row_suits : ℕ → ℕ → Plane → ℕ → Bool
row_suits max width p r = none_above max (sample_at p r) width

-- 6: no visible sample is above sample_max
unfoldable pub samples_suit : Size → Plane → Bool
samples_suit size p = all_to (row_suits (max_of size.depth) size.width p) size.height

-- the tests of what all planes of a call share; `least` is the call's least side
unfoldable pub size_tests : Size → ℕ → List (Refusal × Bool)
size_tests size least =
    (no.Depth, depth_suits size.wide size.depth)
    ∷ (no.Size, sides_suit size.width size.height)
    ∷ (no.Side, sides_reach least size.width size.height)
    ∷ []

-- the tests of each plane
unfoldable pub layout_tests : Size → List Plane → List (Refusal × Bool)
layout_tests size planes =
    (no.Stride, every (λ (p : Plane). stride_suits size.width p.stride) planes)
    ∷ (no.Short, every (long_enough size) planes)
    ∷ (no.Sample, every (samples_suit size) planes)
    ∷ []

-- 1 to 6 of so many planes, in ascending order
abbrev pub plane_tests : Size → List Plane → ℕ → List (Refusal × Bool)
plane_tests size planes least = size_tests size least ++ layout_tests size planes

-- the lowest of 1 to 6 that applies
abbrev pub plane_refusal : Size → List Plane → ℕ → Verdict
plane_refusal size planes least = first_broken (plane_tests size planes least)

-- the same of the two planes of a call
abbrev pub pair_tests : Planes → ℕ → List (Refusal × Bool)
pair_tests p least = plane_tests p.size (both p) least

abbrev pub pair_refusal : Planes → ℕ → Verdict
pair_refusal p least = plane_refusal p.size (both p) least

-- SCOPE, "What a plane may be". Definitions only.
use Rattle.std.specs.Prelude.{Bool, true, ◌&&◌, List, [], ◌∷◌, ℕ, zero, suc, ◌+◌, ◌*◌, ◌-◌, ◌^◌, get_or}
use Rattle.plane.specs.Limits.{most_depth}

-- what the planes of a call share: whether their samples are words, their sides in samples, and their depth
pub record Size : Type 0 where
  pub wide : Bool
  pub width : ℕ
  pub height : ℕ
  pub depth : ℕ

-- a plane as it is lent: its samples, one after another, and its stride
pub record Plane : Type 0 where
  pub samples : List ℕ
  pub stride : ℕ

abbrev pub plane_of : List ℕ → ℕ → Plane
plane_of samples stride = record { samples = samples; stride = stride }

-- the two planes of a call, and what they share
pub record Planes : Type 0 where
  pub size : Size
  pub a : Plane
  pub b : Plane

abbrev pub size_of : Bool → ℕ → ℕ → ℕ → Size
size_of wide width height depth = record { wide = wide; width = width; height = height; depth = depth }

abbrev pub planes_of : Size → Plane → Plane → Planes
planes_of size a b = record { size = size; a = a; b = b }

abbrev pub both : Planes → List Plane
both p = p.a ∷ p.b ∷ []

-- sample_max, the largest sample of a depth
unfoldable pub max_of : ℕ → ℕ
max_of depth = 2 ^ depth - 1

-- the largest sample of any depth
abbrev pub sample_limit : ℕ
sample_limit = max_of (most_depth true)

-- what stands at a place of a list
abbrev pub at : List ℕ → ℕ → ℕ
at samples i = get_or samples i 0

-- the sample in row r and column c, c samples after the row's first
abbrev pub sample_at : Plane → ℕ → ℕ → ℕ
sample_at p r c = at p.samples (r * p.stride + c)

-- how many samples a plane must have: the padding of its last row need not be there
abbrev pub needed : ℕ → ℕ → ℕ → ℕ
needed width height stride = stride * (height - 1) + width

-- f holds at every index below n
unfoldable pub all_to : (ℕ → Bool) → ℕ → Bool
all_to f zero = true
all_to f (suc n) = all_to f n && f n

-- f holds of every plane
abbrev pub every : (Plane → Bool) → List Plane → Bool
every f [] = true
every f (p ∷ more) = f p && every f more

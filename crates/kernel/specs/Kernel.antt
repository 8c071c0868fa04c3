-- SCOPE, "What a plane may be": kernels. Definitions only.
use Rattle.std.specs.Prelude.{Bool, ◌&&◌, ◌||◌, List, [], ◌∷◌, ℕ, ◌-◌, ◌/◌, ◌%◌, eqb, leb, length, get_or}
use Rattle.plane.specs.Plane.{all_to}
use Rattle.plane.specs.Sums.{sum_to}

-- tap k
abbrev pub tap : List ℕ → ℕ → ℕ
tap ker k = get_or ker k 0

-- the largest count of taps
unfoldable pub most_taps : ℕ
most_taps = 255

-- what the taps of a lent kernel sum to
unfoldable pub lent_total : ℕ
lent_total = 256

-- MS-SSIM's own kernel, which is never lent, and what its taps sum to
abbrev pub fixed_kernel : List ℕ
fixed_kernel = 8 ∷ 37 ∷ 112 ∷ 218 ∷ 274 ∷ 218 ∷ 112 ∷ 37 ∷ 8 ∷ []

unfoldable pub fixed_total : ℕ
fixed_total = 1024

-- an odd count of taps, and not too many
unfoldable pub odd_count : List ℕ → Bool
odd_count ker = eqb (length ker % 2) 1 && leb (length ker) most_taps

-- no tap above the total
unfoldable pub taps_suit : ℕ → List ℕ → Bool
taps_suit total ker = all_to (λ (k : ℕ). leb (tap ker k) total) (length ker)

-- the taps sum to the total
unfoldable pub sums_to : ℕ → List ℕ → Bool
sums_to total ker = eqb (sum_to (tap ker) (length ker)) total

-- the same from both ends
unfoldable pub mirrored : List ℕ → Bool
mirrored ker = all_to (λ (k : ℕ). eqb (tap ker k) (tap ker (length ker - 1 - k))) (length ker)

-- the middle tap is at least 1
unfoldable pub middled : List ℕ → Bool
middled ker = leb 1 (tap ker (length ker / 2))

-- no idle ends: of more than one tap the first is at least 1, and so is the last where it is the same from both ends
unfoldable pub ended : List ℕ → Bool
ended ker = leb (length ker) 1 || leb 1 (tap ker 0)

-- A lawful kernel whose taps sum to `total`: lent ones have the total 256, and the fixed one is lawful at its own.
unfoldable pub lawful : ℕ → List ℕ → Bool
lawful total ker = odd_count ker && (taps_suit total ker && (sums_to total ker && (mirrored ker && (middled ker && ended ker))))

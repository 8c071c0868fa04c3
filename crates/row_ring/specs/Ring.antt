-- The last rows of two planes in lent places of 64 signed bits: a pair of samples to a place, row r at slot r % L of a ring of L lines.
-- Whatever stands in a place, it means two words. Definitions only.
use Rattle.std.specs.Prelude.{List, ℕ, ◌+◌, ◌*◌, ◌/◌, ◌%◌, ℤ, pos, negsuc, set, get_or}
use Rattle.number.specs.Steps.{fold_to}
use Rattle.row_ring.specs.declared.Ring.{Ring}

-- words are below this: in a place the first of the pair counts ones, the second counts so many
unfoldable pub pair_base : ℕ
pair_base = 65536

-- two samples in one place
unfoldable pub packed_of : ℕ → ℕ → ℕ
packed_of a b = a + pair_base * b

-- what a place means; below 0 counts as 0
unfoldable pub plain_of : ℤ → ℕ
plain_of (pos n) = n
plain_of (negsuc n) = 0

abbrev pub first_of : ℤ → ℕ
first_of z = plain_of z % pair_base

abbrev pub second_of : ℤ → ℕ
second_of z = plain_of z / pair_base % pair_base

-- the places of the ring
abbrev pub ring_places : Ring → ℕ
ring_places ring = ring.lines * ring.width

-- where column c of row r stands
abbrev pub place_at : ℕ → ℕ → ℕ → ℕ → ℕ
place_at width lines r c = r % lines * width + c

-- the ring as two views
unfoldable pub ring_a : List ℤ → ℕ → ℕ → ℕ → ℕ → ℕ
ring_a s width lines r c = first_of (get_or s (place_at width lines r c) (pos 0))

unfoldable pub ring_b : List ℤ → ℕ → ℕ → ℕ → ℕ → ℕ
ring_b s width lines r c = second_of (get_or s (place_at width lines r c) (pos 0))

-- s with g 0 to g (n - 1) from place `from` on
unfoldable pub stored_of : List ℤ → ℕ → (ℕ → ℕ) → ℕ → List ℤ
stored_of s from g n = fold_to (λ (l : List ℤ) (x : ℕ). set l (from + x) (pos (g x))) s n

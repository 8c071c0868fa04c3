-- What the engine asks of the lent places: room for the ring, which has a line for every tap, then for the columns between their margins, and
-- zeros past the ring. Definitions only.
use Rattle.std.specs.Prelude.{◌≡◌, List, ℕ, ◌+◌, ◌*◌, ◌≤◌, length, ℤ, pos}
use Rattle.window.specs.Inner.Columns.{at_z, columns_of}
use Rattle.row_ring.specs.declared.Ring.{Ring}
use Rattle.row_ring.specs.Ring.{ring_places}

abbrev pub Roomy : Ring → List ℕ → ℕ → Type 0
Roomy ring ker places = (length ker ≤ ring.lines) × (ring_places ring + 5 * columns_of ker ring.width ≤ places)

abbrev pub Clean : Ring → List ℤ → Type 0
Clean ring s = (j : ℕ) → ring_places ring ≤ j → at_z s j ≡ pos 0

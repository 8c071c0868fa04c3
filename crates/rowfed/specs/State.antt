-- SCOPE, "Rows as they arrive": the state that a caller holds between calls, and which states a begin and feeds can give. Definitions only.
use Rattle.std.specs.Prelude.{Bool, ◌&&◌, List, ◌++◌, ℕ, ◌-◌, ◌/◌, ◌*◌, eqb, leb, Float, length, take, drop, replicate}
use Rattle.number.specs.Steps.{double}
use Rattle.plane.specs.Plane.{at, all_to, max_of}
use Rattle.plane.specs.Tests.{depth_suits, sides_suit}
use Rattle.kernel.specs.Kernel.{most_taps, lent_total, lawful}
use Rattle.ssim.specs.Scratch.{next_power, scratch_places}
use Rattle.ssim.specs.Score.{no_totals}
use Rattle.row_ring.specs.declared.Ring.{Ring}
use Rattle.row_ring.specs.Taken.{scored_after}
use Rattle.rowfed.specs.declared.State.{State}

-- ---- what a state holds

-- a kernel in the places of a state: its taps, then zeros
abbrev pub held_kernel : List ℕ → List ℕ
held_kernel ker = ker ++ replicate (most_taps - length ker) 0

-- the kernel of a state
abbrev pub kernel_of : State → List ℕ
kernel_of s = take s.taps s.kernel

-- its ring, its max² as a double, and the places of scratch that it needs
abbrev pub ring_of : State → Ring
ring_of s = record { width = s.width; height = s.height; lines = next_power s.taps }

abbrev pub max2_of : State → Float
max2_of s = let max = max_of s.depth in double (max * max)

abbrev pub places_of : State → ℕ
places_of s = scratch_places s.width s.taps

-- ---- which states there can be

-- all of a list is 0
unfoldable pub zeros : List ℕ → Bool
zeros l = all_to (λ (k : ℕ). eqb (at l k) 0) (length l)

-- the first `taps` places are a lawful kernel, and past it are nothing but zeros
unfoldable pub places_suit : List ℕ → ℕ → Bool
places_suit places taps = leb taps (length places) && (lawful lent_total (take taps places) && zeros (drop taps places))

-- no more rows than the height, and as many scored as so many rows allow
unfoldable pub counts_suit : State → Bool
counts_suit s = leb s.rows s.height && eqb s.scored (scored_after s.rows s.height (s.taps / 2))

-- what a begin and feeds of bytes, or of words where `wide` is true, can give (`possible_reached`, `reached_possible`). The running sums are not
-- judged.
unfoldable pub possible : Bool → State → Bool
possible wide s = depth_suits wide s.depth && (sides_suit s.width s.height && (places_suit s.kernel s.taps && counts_suit s))

-- the state of zeros; it is not possible, so no call takes it
abbrev pub no_state : State
no_state =
    record { width = 0; height = 0; depth = 0; taps = 0; kernel = replicate most_taps 0; rows = 0; scored = 0; sums = no_totals }

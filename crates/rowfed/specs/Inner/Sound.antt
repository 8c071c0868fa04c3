-- What holds of a state that is possible, and of a feed that no test refuses, as facts: the engine, which runs after the tests, asks for these.
-- Definitions only.
use Rattle.std.specs.Prelude.{◌≡◌, ℕ, ◌+◌, ◌≤◌, ◌<◌, length}
use Rattle.plane.specs.Limits.{side_limit}
use Rattle.plane.specs.Plane.{Planes}
use Rattle.plane.specs.Sums.{sum_to}
use Rattle.plane.specs.Inner.Seen.{Long}
use Rattle.kernel.specs.Kernel.{tap, most_taps, lent_total}
use Rattle.window.specs.Inner.Parts.{Kernel}
use Rattle.rowfed.specs.declared.State.{State}
use Rattle.rowfed.specs.State.{kernel_of, places_of}
use Rattle.rowfed.specs.Feed.{used_places}

-- a possible state
pub record SoundState (s : State) : Type 0 where
  pub taps_least : 1 ≤ s.taps
  pub taps_most : s.taps ≤ most_taps
  pub width_least : 1 ≤ s.width
  pub width_most : s.width ≤ side_limit
  pub height_least : 1 ≤ s.height
  pub height_most : s.height ≤ side_limit
  pub depth_most : s.depth < 32
  pub rows_most : s.rows ≤ s.height
  pub count : length (kernel_of s) ≡ s.taps
  pub kernel : Kernel (kernel_of s)
  pub total : lent_total ≡ sum_to (tap (kernel_of s)) (length (kernel_of s))
  pub used_few : used_places s ≤ places_of s

-- a feed that is taken
pub record SoundFeed (s : State) (g : Planes) (lent : ℕ) : Type 0 where
  pub state : SoundState s
  pub width : g.size.width ≡ s.width
  pub long : 0 < g.size.height → Long g.size g.a × Long g.size g.b
  pub room : s.rows + g.size.height ≤ s.height
  pub lent_enough : places_of s ≤ lent

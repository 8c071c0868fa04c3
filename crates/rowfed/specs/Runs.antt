-- SCOPE, "Rows as they arrive": feeds one after another, and two planes cut into groups of rows. Definitions only.
use Rattle.std.specs.Prelude.{◌≡◌, Bool, true, List, [], ◌∷◌, ℕ, ◌+◌, ◌<◌, ℤ, length, Ok}
use Rattle.plane.specs.Plane.{Size, Planes, sample_at, size_of}
use Rattle.plane.specs.Tests.{stride_suits, long_enough}
use Rattle.rowfed.specs.declared.State.{State}
use Rattle.rowfed.specs.Begin.{begin_refusal, begun_state, scratch_begun}
use Rattle.rowfed.specs.Feed.{feed_refusal, state_fed, scratch_fed}

-- what the caller has between calls: the state, and the scratch
pub record Between : Type 0 where
  pub state : State
  pub scratch : List ℤ

-- after one feed, refused or not
abbrev pub fed_once : Between → Planes → Between
fed_once h g = record { state = state_fed h.state g h.scratch; scratch = scratch_fed h.state g h.scratch }

-- after each of a list of feeds
abbrev pub fed_all : Between → List Planes → Between
fed_all h [] = h
fed_all h (g ∷ more) = fed_all (fed_once h g) more

-- Rows of the planes p, from row `received` on: as many as g has, lent as any plane may be. How they are lent is g's own.
pub record RowsOf (p : Planes) (received : ℕ) (g : Planes) : Type 0 where
  pub wide : g.size.wide ≡ p.size.wide
  pub width : g.size.width ≡ p.size.width
  pub depth : g.size.depth ≡ p.size.depth
  pub stride_a : stride_suits g.size.width g.a.stride ≡ true
  pub stride_b : stride_suits g.size.width g.b.stride ≡ true
  pub long_a : 0 < g.size.height → long_enough g.size g.a ≡ true
  pub long_b : 0 < g.size.height → long_enough g.size g.b ≡ true
  pub same_a : (i c : ℕ) → i < g.size.height → c < g.size.width → sample_at g.a i c ≡ sample_at p.a (received + i) c
  pub same_b : (i c : ℕ) → i < g.size.height → c < g.size.width → sample_at g.b i c ≡ sample_at p.b (received + i) c

-- groups, some of them perhaps empty, that are together all rows of p from row `received` on
abbrev pub Groups : Planes → ℕ → List Planes → Type 0
Groups p received [] = received ≡ p.size.height
Groups p received (g ∷ more) = RowsOf p received g × Groups p (received + g.size.height) more

-- ---- which states a begin and feeds give

-- what the caller has after a begin that is not refused
abbrev pub begun_with : Size → List ℕ → List ℤ → Between
begun_with size ker scratch = record { state = begun_state size ker; scratch = scratch_begun size ker scratch }

-- Feeds of bytes, or of words where `wide` is true, that are all taken: each is lent rows of the state's width and depth, as `fed_rows` has them, and
-- at its turn no test refuses it.
abbrev pub TakenAll : Bool → Between → List Planes → Type 0
TakenAll wide h [] = Unit {0}
TakenAll wide h (g ∷ more) =
    (g.size ≡ size_of wide h.state.width g.size.height h.state.depth)
    × ((feed_refusal h.state g (length h.scratch) ≡ Ok tt) × TakenAll wide (fed_once h g) more)

-- all of two states is the same but the running sums
pub record SameNumbers (s t : State) : Type 0 where
  pub width : s.width ≡ t.width
  pub height : s.height ≡ t.height
  pub depth : s.depth ≡ t.depth
  pub taps : s.taps ≡ t.taps
  pub kernel : s.kernel ≡ t.kernel
  pub rows : s.rows ≡ t.rows
  pub scored : s.scored ≡ t.scored

-- the numbers of s are those that a begin of this sample width gives, and feeds after it, none of them refused
pub record Reached (wide : Bool) (s : State) : Type 0 where
  pub size : Size
  pub ker : List ℕ
  pub scratch : List ℤ
  pub feeds : List Planes
  pub of_wide : size.wide ≡ wide
  pub begun : begin_refusal size ker (length scratch) ≡ Ok tt
  pub fed : TakenAll wide (begun_with size ker scratch) feeds
  pub same : SameNumbers s (fed_all (begun_with size ker scratch) feeds).state

-- A depth above every sample's makes a state impossible, whatever else stands in it: so no number of a lent state is ever cut short. Assumes nothing.
use mathlib.Core.Path.{◌≡◌, refl}
use mathlib.Core.Bool.{Bool, true, false}
use Prim.Native.Nat.{ℕ, ◌<◌}
use Rattle.std.specs.Prelude.{Err}
use Rattle.refusal.specs.declared.Refusal.TheVariants as no
use Rattle.plane.specs.Limits.{most_depth}
use Rattle.plane.specs.Plane.{Planes}
use Rattle.plane.proofs.Depth.{above_depths}
use Rattle.rowfed.specs.declared.State.{State}
use Rattle.rowfed.specs.State.{possible}
use Rattle.rowfed.specs.Feed.{feed_tests, feed_refusal}
use Rattle.rowfed.specs.Finish.{finish_tests, finish_refusal}

module _ (s : State) (deep : most_depth true < s.depth) where
  deep_state : (wide : Bool) → possible wide s ≡ false
  unfolding possible
  deep_state wide = rw (← (above_depths wide s.depth deep))

  pub deep_feed : (g : Planes) (lent : ℕ) → feed_refusal s g lent ≡ Err no.State
  unfolding feed_tests
  deep_feed g lent = rw (deep_state g.size.wide) refl

  pub deep_finish : (lent : ℕ) → finish_refusal s lent ≡ Err no.State
  unfolding finish_tests
  deep_finish lent = rw (deep_state false, deep_state true)

-- What holds of a call's planes and scratch that no test of Answer refuses, as facts: the score, which is made after the tests, asks for
-- these. Definitions only.
use Rattle.std.specs.Prelude.{◌≤◌, length}
use Rattle.plane.specs.Plane.{Planes}
use Rattle.plane.specs.Inner.Lawful.{AcceptedPair}
use Rattle.msssim.specs.Scratch.{Scratch, places_needed, samples_needed}
use Rattle.msssim.specs.Answer.{least_side}

pub record Sound (p : Planes) (s : Scratch) : Type 0 where
  pub planes : AcceptedPair p least_side
  pub places : places_needed p.size.width ≤ length s.places
  pub a32 : samples_needed p.size.width p.size.height ≤ length s.a32
  pub b32 : samples_needed p.size.width p.size.height ≤ length s.b32

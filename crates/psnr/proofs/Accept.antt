-- What holds where no test of the squared error refuses, and what the answer is where one does. Assumes nothing.
use Rattle.std.proofs.Common.{◌≡◌, ℕ, Bool, true, false, List, [], ◌∷◌, Ok, Err, sym, refl, ◌∙◌}
use Rattle.refusal.specs.declared.Refusal.{Refusal}
use Rattle.refusal.specs.declared.Refusal.TheVariants as no
use Rattle.refusal.specs.First.{Verdict, first_broken, unless_refused}
use Rattle.refusal.proofs.Chain.{halves, passed, stop, together}
use Rattle.plane.specs.Plane.{Planes, both}
use Rattle.plane.specs.Tests.{pair_tests, pair_refusal}
use Rattle.plane.specs.Inner.Lawful.{AcceptedPair}
use Rattle.plane.proofs.Accept.{accepted}
use Rattle.psnr.specs.Record.{plane_suits}
use Rattle.psnr.specs.Squared.{squared_error_refusal}

-- a verdict that nothing more is asked after
alone : (v : Verdict) → unless_refused v (Ok tt) ≡ v
alone (Ok _) = refl
alone (Err r) = refl

module _ (plane : ℕ) where
  -- the call's own test, after those of the planes
  abbrev own : List (Refusal × Bool)
  own = (no.Record, plane_suits plane) ∷ []

  -- the verdict: that of the planes, and then that of the number
  refusal_in_parts : (p : Planes) → squared_error_refusal p plane ≡ unless_refused (pair_refusal p 0) (first_broken own)
  refusal_in_parts p = together (pair_tests p 0) own

  module _ (p : Planes) where
    pub planes_refuse : {r : Refusal} → pair_refusal p 0 ≡ Err r → squared_error_refusal p plane ≡ Err r
    planes_refuse e = stop (pair_tests p 0) own e

    pub number_refuses : pair_refusal p 0 ≡ Ok tt → plane_suits plane ≡ false → squared_error_refusal p plane ≡ Err no.Record
    number_refuses e f = refusal_in_parts p ∙ rw (e, f) refl

    pub none_refuses : pair_refusal p 0 ≡ Ok tt → plane_suits plane ≡ true → squared_error_refusal p plane ≡ Ok tt
    none_refuses e f = refusal_in_parts p ∙ rw (e, f) refl

  -- where none refuses, the planes are lawful and the number suits
  pub error_taken : (p : Planes) → squared_error_refusal p plane ≡ Ok tt → AcceptedPair p 0 × (plane_suits plane ≡ true)
  error_taken p e = let h = halves (pair_tests p 0) own e in (accepted p.size (both p) 0 h.0, (passed own h.1).0)

  -- where it suits, only the planes are refused
  pub planes_alone : (p : Planes) → plane_suits plane ≡ true → squared_error_refusal p plane ≡ pair_refusal p 0
  planes_alone p suits = refusal_in_parts p ∙ rw suits (alone (pair_refusal p 0))

  -- planes that no test tells apart are refused alike
  pub refusal_same : (p q : Planes) → pair_refusal p 0 ≡ pair_refusal q 0 → squared_error_refusal p plane ≡ squared_error_refusal q plane
  refusal_same p q e = refusal_in_parts p ∙ rw e (sym (refusal_in_parts q))

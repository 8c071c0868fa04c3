-- The answer of a squared error, from what each of its steps found. Assumes nothing.
use Rattle.std.proofs.Common.{◌≡◌, ℕ, true, false, Ok, Err, refl, ◌∙◌}
use Rattle.refusal.specs.declared.Refusal.{Refusal}
use Rattle.refusal.specs.declared.Refusal.TheVariants as no
use Rattle.plane.specs.Plane.{Planes, both}
use Rattle.plane.specs.Tests.{pair_refusal}
use Rattle.plane.specs.Inner.Lawful.{AcceptedPair}
use Rattle.plane.specs.Inner.Unread.{unread_refusal}
use Rattle.plane.proofs.Accept.{accepted}
use Rattle.plane.proofs.Unread.{pair_by}
use Rattle.psnr.specs.Record.{plane_suits}
use Rattle.psnr.specs.Squared.{record_of, error_answer, squared_error_of}
use Rattle.psnr.specs.Inner.Walk.{walked_of}
use Rattle.psnr.proofs.Accept.{planes_refuse, number_refuses, none_refuses}
use Rattle.psnr.proofs.Walks.{whole_says, whole_breaks}

module _ (p : Planes) where
  -- 1 to 5 refuse the planes
  pub early : {r : Refusal} → Err r ≡ unread_refusal p 0 → pair_refusal p 0 ≡ Err r
  early e = pair_by p 0 ∙ rw (← e) refl

  module _ (e : unread_refusal p 0 ≡ Ok tt) where
    -- 6 does
    on_walk : {r : Refusal} → Err r ≡ walked_of p → pair_refusal p 0 ≡ Err r
    on_walk w = let found = whole_breaks p w in pair_by p 0 ∙ rw (e, found.0, found.1) refl

    -- none does
    pub passed : {error : ℕ} → Ok error ≡ walked_of p → pair_refusal p 0 ≡ Ok tt
    passed w = pair_by p 0 ∙ rw (e, (whole_says p w).0) refl

    pub taken : {error : ℕ} → Ok error ≡ walked_of p → AcceptedPair p 0
    taken w = accepted p.size (both p) 0 (passed w)

  module _ (frame plane : ℕ) where
    pub refused_early : {r : Refusal} → Err r ≡ unread_refusal p 0 → Err r ≡ squared_error_of p frame plane
    unfolding squared_error_of
    refused_early e = rw (planes_refuse plane p (early e)) refl

    module _ (e : unread_refusal p 0 ≡ Ok tt) where
      pub refused_on_walk : {r : Refusal} → Err r ≡ walked_of p → Err r ≡ squared_error_of p frame plane
      unfolding squared_error_of
      refused_on_walk w = rw (planes_refuse plane p (on_walk e w)) refl

      module _ {error : ℕ} (w : Ok error ≡ walked_of p) where
        pub refused_by_number : plane_suits plane ≡ false → Err no.Record ≡ squared_error_of p frame plane
        unfolding squared_error_of
        refused_by_number f = rw (number_refuses plane p (passed e w) f) refl

        pub answered : plane_suits plane ≡ true → Ok (error_answer error (record_of p frame plane)) ≡ squared_error_of p frame plane
        unfolding squared_error_of
        answered s = rw (none_refuses plane p (passed e w) s, (whole_says p w).1) refl

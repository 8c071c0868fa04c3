-- The verdict of MS-SSIM in parts, and what holds where no test refuses. Assumes nothing.
use mathlib.Core.Path.{◌≡◌}
use mathlib.Core.Bool.{Bool}
use mathlib.Core.List.{List, [], ◌∷◌}
use Prim.Native.Nat.{ℕ, ◌*◌, ◌≤◌, ◌^◌}
use native.Mathlib.Omega.{arith}
use borrow.Author.Tests.{leb-true}
use lib.Dec.{leb, lit<}
use lib.ListN.{length}
use Rattle.std.specs.Prelude.{Ok}
use Rattle.refusal.specs.declared.Refusal.{Refusal}
use Rattle.refusal.specs.declared.Refusal.TheVariants as no
use Rattle.refusal.specs.First.{first_broken, unless_refused}
use Rattle.refusal.proofs.Chain.{and_left, and_right, halves, passed, together}
use Rattle.plane.specs.Limits.{most_depth}
use Rattle.plane.specs.Plane.{Planes, max_of, both}
use Rattle.plane.specs.Tests.{pair_tests, pair_refusal}
use Rattle.plane.proofs.Accept.{accepted}
use Rattle.window.specs.Moments.{most_sample}
use Rattle.msssim.proofs.Demand.{scale_max, scale_fits}
use Rattle.msssim.specs.Scale.{scale_count}
use Rattle.msssim.specs.Scratch.{Scratch, places_needed, samples_needed, scratch_suits}
use Rattle.msssim.specs.Answer.{least_side, msssim_refusal}
use Rattle.msssim.specs.Inner.Sound.{Sound}

-- ---- the verdict: that of the planes, and then 8
pub in_parts : (p : Planes) (s : Scratch) → msssim_refusal p s
    ≡ unless_refused (pair_refusal p least_side) (first_broken ((no.Scratch, scratch_suits p.size s) ∷ []))
in_parts p s = together (pair_tests p least_side) ((no.Scratch, scratch_suits p.size s) ∷ [])

-- ---- none of them refuses
pub sound : (p : Planes) (s : Scratch) → msssim_refusal p s ≡ Ok tt → Sound p s
unfolding scratch_suits
sound p s e =
    let tests : List (Refusal × Bool) = (no.Scratch, scratch_suits p.size s) ∷ [] in
    let h = halves (pair_tests p least_side) tests e in
    let all = (passed tests h.1).0 in
    let samples = and_right (leb (places_needed p.size.width) (length s.places)) _ all in
    record {
      planes = accepted p.size (both p) least_side h.0;
      places = leb-true _ _ (and_left _ _ all);
      a32 = leb-true _ _ (and_left _ _ samples);
      b32 = leb-true _ _ (and_right (leb (samples_needed p.size.width p.size.height) (length s.a32)) _ samples);
    }

-- ---- the samples of five scales fit
pub first_fits : (wide : Bool) (depth : ℕ) → depth ≤ most_depth wide → max_of depth * 4 ^ scale_count ≤ 4 * most_sample
unfolding scale_max scale_count
first_fits wide depth d = omega (arith, scale_fits wide depth 4 d (lit< tt))

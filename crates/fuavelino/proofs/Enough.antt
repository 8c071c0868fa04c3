-- Who lends as many places as the exported counts say is never told that they are too few. Assumes nothing.
use mathlib.Core.Path.{◌≡◌, refl, sym, ap, ◌∙◌}
use mathlib.Core.Bool.{Bool, true, false, ◌&&◌, true≢false}
use mathlib.Core.List.{List, [], ◌∷◌, ◌++◌}
use Prim.Native.Nat.{ℕ, ◌≤◌, ◌<◌}
use native.Mathlib.Omega.{arith}
use borrow.Author.Tests.{le-leb}
use lib.Dec.{leb, lit≤}
use lib.ListN.{length}
use Rattle.std.specs.Prelude.{Ok, Err}
use Rattle.refusal.specs.declared.Refusal.{Refusal}
use Rattle.refusal.specs.declared.Refusal.TheVariants as no
use Rattle.refusal.specs.Numbers.{number_of}
use Rattle.refusal.specs.First.{Verdict, first_broken}
use Rattle.refusal.proofs.Chain.{passed}
use Rattle.plane.specs.Limits.{side_limit}
use Rattle.plane.specs.Plane.{Planes, both}
use Rattle.plane.specs.Tests.{size_tests, layout_tests, pair_tests}
use Rattle.plane.proofs.Accept.{accepted}
use Rattle.kernel.specs.Kernel.{most_taps, lent_total, lawful}
use Rattle.ssim.specs.Scratch.{scratch_places}
use Rattle.ssim.specs.Answer.{lent_tests, ssim_refusal}
use Rattle.ssim.proofs.Accept.{taps_count}
use Rattle.locate.specs.Map.{map_places, map_refusal}
use Rattle.msssim.specs.Scratch.{Scratch, places_needed, samples_needed, scratch_suits}
use Rattle.msssim.specs.Answer.{least_side, msssim_refusal}
use Rattle.fuavelino.specs.Places.{within, ssim_places, msssim_places, msssim_samples, error_map_places}
use Rattle.fuavelino.proofs.Counts.{given}

-- ---- tests that have other refusals than the answer passed
abbrev pub Other : Refusal → List (Refusal × Bool) → Type 0
Other m [] = Unit {0}
Other m (t ∷ later) = (t.0 ≡ m → ⊥) × Other m later

same_refusal : {r m : Refusal} → ◌≡◌ {A = Verdict} (Err r) (Err m) → r ≡ m
same_refusal e = cc

pub others : (m : Refusal) (ts more : List (Refusal × Bool)) → Other m ts → first_broken (ts ++ more) ≡ Err m
    → (first_broken ts ≡ Ok tt) × (first_broken more ≡ Err m)
others m [] more other e = (refl, e)
others m ((r, true) ∷ later) more other e = others m later more other.1 e
others m ((r, false) ∷ later) more other e = absurd (other.0 (same_refusal e))

-- the planes' six have lower numbers than those that come later
pub plane_others : (m : Refusal) → 6 < number_of m → (p : Planes) (least : ℕ) → Other m (pair_tests p least)
unfolding size_tests layout_tests
plane_others m later p least =
    let six : (r : Refusal) → number_of r ≤ 6 → r ≡ m → ⊥ = λ r low z. omega (arith, later, low, ap number_of z) in (
      six no.Depth (lit≤ tt),
      (
        six no.Size (lit≤ tt),
        (six no.Side (lit≤ tt), (six no.Stride (lit≤ tt), (six no.Short (lit≤ tt), (six no.Sample (lit≤ tt), tt)))),
      ),
    )

-- the last test, of 8, failed
last_fails : (t : Bool) → first_broken ((no.Scratch, t) ∷ []) ≡ Err no.Scratch → t ≡ false
last_fails true e = cc
last_fails false e = refl

-- ---- what is counted where sides and taps are taken
is_within : (least most n : ℕ) → least ≤ n → n ≤ most → within least most n ≡ true
unfolding within
is_within least most n low high = rw (le-leb least n low, le-leb n most high)

both_true : {a b : Bool} → a ≡ true → b ≡ true → (a && b) ≡ true
both_true e f = rw (e, f)

ssim_count : (width taps : ℕ) → within 1 side_limit width ≡ true → within 1 most_taps taps ≡ true → scratch_places width taps ≡ ssim_places width taps
unfolding ssim_places
ssim_count width taps w t = given _ _ (both_true w t)

module _ (width height : ℕ) (w : within least_side side_limit width ≡ true) (h : within least_side side_limit height ≡ true) where
  places_count : places_needed width ≡ msssim_places width
  unfolding msssim_places
  places_count = given _ _ w

  samples_count : samples_needed width height ≡ msssim_samples width height
  unfolding msssim_samples
  samples_count = given _ _ (both_true w h)

-- ---- the laws
pub ssim_enough : (p : Planes) (ker : List ℕ) (places : ℕ) → ssim_places p.size.width (length ker) ≤ places
    → ssim_refusal p ker places ≡ Err no.Scratch → ⊥
unfolding lent_tests
ssim_enough p ker places enough h =
    let width : ℕ = p.size.width in
    let taps : ℕ = length ker in
    let planes = others no.Scratch (pair_tests p 0) (lent_tests width ker places) (plane_others no.Scratch (lit≤ tt) p 0) h in
    let tests : List (Refusal × Bool) = (no.Kernel, lawful lent_total ker) ∷ [] in
    let kernel = others no.Scratch tests ((no.Scratch, leb (scratch_places width taps) places) ∷ []) (λ z. cc, tt) planes.1 in
    let sized = (accepted p.size (both p) 0 planes.0).sized in
    let count = taps_count ker (passed tests kernel.0).0 in
    let same : scratch_places width taps ≡ ssim_places width taps =
    ssim_count width taps (is_within 1 side_limit width sized.width_least sized.width_most) (is_within 1 most_taps taps count.0 count.1) in
    let served : scratch_places width taps ≤ places = rw same enough in
    true≢false (sym (le-leb _ _ served) ∙ last_fails _ kernel.1)

pub msssim_enough : (p : Planes) (s : Scratch) → msssim_places p.size.width ≤ length s.places
    → msssim_samples p.size.width p.size.height ≤ length s.a32
    → msssim_samples p.size.width p.size.height ≤ length s.b32
    → msssim_refusal p s ≡ Err no.Scratch → ⊥
unfolding scratch_suits
msssim_enough p s enough enough_a enough_b h =
    let width : ℕ = p.size.width in
    let height : ℕ = p.size.height in
    let planes = others no.Scratch (pair_tests p least_side) ((no.Scratch, scratch_suits p.size s) ∷ []) (plane_others no.Scratch (lit≤ tt) p least_side) h in
    let sized = (accepted p.size (both p) least_side planes.0).sized in
    let wide = is_within least_side side_limit width sized.width_reaches sized.width_most in
    let high = is_within least_side side_limit height sized.height_reaches sized.height_most in
    let same : samples_needed width height ≡ msssim_samples width height = samples_count width height wide high in
    let served : places_needed width ≤ length s.places = rw (places_count width height wide high) enough in
    let served_a : samples_needed width height ≤ length s.a32 = rw same enough_a in
    let served_b : samples_needed width height ≤ length s.b32 = rw same enough_b in
    let all : scratch_suits p.size s ≡ true = both_true (le-leb _ _ served) (both_true (le-leb _ _ served_a) (le-leb _ _ served_b)) in
    true≢false (sym all ∙ last_fails _ planes.1)

pub error_map_enough : (p : Planes) (places : ℕ) → error_map_places p.size.width p.size.height ≤ places → map_refusal p places ≡ Err no.Scratch → ⊥
unfolding error_map_places
error_map_enough p places enough h =
    let width : ℕ = p.size.width in
    let height : ℕ = p.size.height in
    let planes = others no.Scratch (pair_tests p 0) ((no.Scratch, leb (map_places p) places) ∷ []) (plane_others no.Scratch (lit≤ tt) p 0) h in
    let sized = (accepted p.size (both p) 0 planes.0).sized in
    let wide = is_within 1 side_limit width sized.width_least sized.width_most in
    let high = is_within 1 side_limit height sized.height_least sized.height_most in
    let same : map_places p ≡ error_map_places width height = given _ _ (both_true wide high) in
    let served : map_places p ≤ places = rw same enough in
    true≢false (sym (le-leb _ _ served) ∙ last_fails _ planes.1)

-- The tests of several planes, taken apart: first those of what they share, then those of each plane, of which the lowest counts.
-- Assumes nothing.
use mathlib.Core.Path.{◌≡◌, refl, ap, ◌∙◌}
use mathlib.Core.Bool.{Bool, true, false, ◌&&◌, and-true}
use mathlib.Core.List.{List, [], ◌∷◌}
use Prim.Native.Nat.{ℕ, ◌≤◌}
use Rattle.std.specs.Prelude.{Ok}
use Rattle.refusal.specs.declared.Refusal.TheVariants as no
use Rattle.refusal.specs.First.{Verdict, first_broken, lower_of, unless_refused}
use Rattle.refusal.proofs.Chain.{passed, together}
use Rattle.plane.specs.Plane.{Size, Plane, Planes}
use Rattle.plane.specs.Plane.{both as both_of}
use Rattle.plane.specs.Tests.{depth_suits, stride_suits, long_enough, samples_suit}
use Rattle.plane.specs.Tests.{size_tests, layout_tests, pair_refusal}
use Rattle.plane.proofs.Accept.{sides_say}

-- the lowest of 4, 5 and 6
abbrev first : Bool → Bool → Bool → Verdict
first stride long sample = first_broken ((no.Stride, stride) ∷ (no.Short, long) ∷ (no.Sample, sample) ∷ [])

-- of two planes, or of one and several others
both : (s l m t k n : Bool) → first (s && t) (l && k) (m && n) ≡ lower_of (first s l m) (first t k n)
both false l m false k n = refl
both false l m true false n = refl
both false l m true true false = refl
both false l m true true true = refl
both true false m false k n = refl
both true true false false k n = refl
both true true true false k n = refl
both true false m true false n = refl
both true false m true true false = refl
both true false m true true true = refl
both true true false true false n = refl
both true true true true false n = refl
both true true false true true false = refl
both true true false true true true = refl
both true true true true true n = refl

pub one_more : (size : Size) (p q : Plane) (more : List Plane) → first_broken (layout_tests size (p ∷ q ∷ more))
    ≡ lower_of (first_broken (layout_tests size (p ∷ []))) (first_broken (layout_tests size (q ∷ more)))
unfolding layout_tests
one_more size p q more =
    simp and-true (both (stride_suits size.width p.stride) (long_enough size p) (samples_suit size p) _ _ _)

-- ---- after `check_size`, which passed: what the tests of the planes may count on
pub sizes_say : (size : Size) (least : ℕ) → first_broken (size_tests size least) ≡ Ok tt
    → (depth_suits size.wide size.depth ≡ true) × (1 ≤ size.width)
unfolding size_tests
sizes_say size least e = let t = passed (size_tests size least) e in (t.0, (sides_say size.width size.height t.1.0).0.0)

-- the verdict of two planes: that of their sizes, and then the lower of each one's own
pub pair_in_parts : (p : Planes) (least : ℕ) → pair_refusal p least ≡ unless_refused (first_broken (size_tests p.size least))
    (lower_of (first_broken (layout_tests p.size (p.a ∷ []))) (first_broken (layout_tests p.size (p.b ∷ []))))
pair_in_parts p least =
    together (size_tests p.size least) (layout_tests p.size (both_of p))
    ∙ ap (unless_refused (first_broken (size_tests p.size least))) (one_more p.size p.a p.b [])

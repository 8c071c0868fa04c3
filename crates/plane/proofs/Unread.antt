-- The tests 1 to 5 apart from 6, for a call that judges 6 while it reads: the two lists, one after the other, are those of Tests, and so what
-- the first answered, and then 6, is the call's answer. Assumes nothing.
use mathlib.Core.Path.{◌≡◌, refl, ap, ◌∙◌}
use mathlib.Core.Bool.{Bool, true, false, ◌&&◌, and-true}
use mathlib.Core.List.{List, [], ◌∷◌, ◌++◌}
use Prim.Native.Nat.{ℕ}
use Rattle.std.specs.Prelude.{Ok}
use Rattle.refusal.specs.declared.Refusal.TheVariants as no
use Rattle.refusal.specs.First.{Verdict, unless, first_broken, lower_of, unless_refused}
use Rattle.refusal.proofs.Chain.{and_left, and_right, Passed, passed, together}
use Rattle.plane.specs.Plane.{Size, Plane, Planes, both}
use Rattle.plane.specs.Tests.{depth_suits, stride_suits, long_enough, samples_suit}
use Rattle.plane.specs.Tests.{size_tests, layout_tests, plane_tests, pair_refusal}
use Rattle.plane.specs.Inner.Seen.{Long}
use Rattle.plane.specs.Inner.Lawful.{Sized}
use Rattle.plane.specs.Inner.Unread.{lent_tests, read_tests, unread_tests, unread_refusal}
use Rattle.plane.proofs.Accept.{long_says, sized}

-- ---- the two lists, one after the other
layout_split : (size : Size) (planes : List Plane) → layout_tests size planes ≡ lent_tests size planes ++ read_tests size planes
unfolding layout_tests lent_tests read_tests
layout_split size planes = refl

plane_split : (size : Size) (planes : List Plane) (least : ℕ) → plane_tests size planes least ≡ unread_tests size planes least ++ read_tests size planes
unfolding size_tests layout_tests lent_tests read_tests
plane_split size planes least = refl

-- ---- 4 and 5 of several planes
-- the lower of 4 and 5
abbrev first : Bool → Bool → Verdict
first stride long = first_broken ((no.Stride, stride) ∷ (no.Short, long) ∷ [])

-- of two planes, or of one and several others
pair : (s l t k : Bool) → first (s && t) (l && k) ≡ lower_of (first s l) (first t k)
pair false l false k = refl
pair false l true false = refl
pair false l true true = refl
pair true false false k = refl
pair true true false k = refl
pair true false true false = refl
pair true false true true = refl
pair true true true k = refl

lent_both : (size : Size) (p q : Plane) (more : List Plane) → first_broken (lent_tests size (p ∷ q ∷ more))
    ≡ lower_of (first_broken (lent_tests size (p ∷ []))) (first_broken (lent_tests size (q ∷ more)))
unfolding lent_tests
lent_both size p q more = simp and-true (pair (stride_suits size.width p.stride) (long_enough size p) _ _)

-- ---- after `check_lent`, which passed
module _ (size : Size) (p : Plane) (e : first_broken (lent_tests size (p ∷ [])) ≡ Ok tt) where
  -- the plane reaches far enough
  pub lent_says : Long size p
  unfolding lent_tests
  lent_says = let t = passed (lent_tests size (p ∷ [])) e in long_says size p (and_left _ _ t.1.0)

-- it goes on with test 6
pub layout_by : (size : Size) (p : Plane) → first_broken (layout_tests size (p ∷ []))
    ≡ unless_refused (first_broken (lent_tests size (p ∷ []))) (unless (samples_suit size p) no.Sample (Ok tt))
unfolding read_tests
layout_by size p = rw layout_split (together (lent_tests size (p ∷ [])) (read_tests size (p ∷ [])) ∙ rw and-true refl)

-- ---- the verdict of two planes without 6: that of their sizes, and then the lower of how each is lent
pub unread_in_parts : (p : Planes) (least : ℕ) → unread_refusal p least ≡ unless_refused (first_broken (size_tests p.size least))
    (lower_of (first_broken (lent_tests p.size (p.a ∷ []))) (first_broken (lent_tests p.size (p.b ∷ []))))
unread_in_parts p least =
    together (size_tests p.size least) (lent_tests p.size (both p))
    ∙ ap (unless_refused (first_broken (size_tests p.size least))) (lent_both p.size p.a p.b [])

-- ---- `check_unread` goes on with test 6
pub pair_by : (p : Planes) (least : ℕ) → pair_refusal p least
    ≡ unless_refused (unread_refusal p least) (unless (samples_suit p.size p.a && samples_suit p.size p.b) no.Sample (Ok tt))
unfolding read_tests
pair_by p least = rw plane_split (together (unread_tests p.size (both p) least) (read_tests p.size (both p)) ∙ rw and-true refl)

-- where it passed, what 1 to 5 ask for holds
module _ (p : Planes) (least : ℕ) (e : unread_refusal p least ≡ Ok tt) where
  all_passed : Passed (unread_tests p.size (both p) least)
  all_passed = passed (unread_tests p.size (both p) least) e

  pub unread_says : Sized p.size least × (Long p.size p.a × Long p.size p.b)
  unfolding size_tests lent_tests
  unread_says =
      let t = all_passed in
      let long = t.1.1.1.1.0 in (
        sized p.size least t.0 t.1.0 t.1.1.0,
        (
          long_says p.size p.a (and_left _ _ long),
          long_says p.size p.b (and_left _ _ (and_right (long_enough p.size p.a) _ long)),
        ),
      )

  pub unread_depth : depth_suits p.size.wide p.size.depth ≡ true
  unfolding size_tests lent_tests
  unread_depth = all_passed.0

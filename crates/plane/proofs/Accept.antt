-- What each test says where it passes; `accepted`: where no test refuses, every fact of `Accepted` holds; and `passes`, the other way
-- round: where they hold, no test refuses. Assumes nothing.
use mathlib.Core.Path.{◌≡◌, refl}
use mathlib.Core.Bool.{true, ◌&&◌}
use mathlib.Core.List.{List, [], ◌∷◌}
use Prim.Native.Nat.{ℕ, ◌≤◌, ◌<◌}
use borrow.Author.Tests.{leb-true, le-leb}
use lib.Dec.{leb}
use Rattle.std.specs.Prelude.{Ok}
use Rattle.refusal.proofs.Chain.{and_left, and_right, passed, none_broken}
use Rattle.plane.specs.Limits.{side_limit, stride_limit}
use Rattle.plane.specs.Plane.{Size, Plane, max_of, sample_at, every}
use Rattle.plane.specs.Inner.Seen.{Long}
use Rattle.plane.specs.Tests.{side_suits, sides_suit, sides_reach, stride_suits, long_enough, row_suits, samples_suit}
use Rattle.plane.specs.Tests.{depth_suits, size_tests, layout_tests, plane_tests, plane_refusal}
use Rattle.plane.specs.Inner.Lawful.{Lawful, Sized, Each, Accepted}
use Rattle.plane.proofs.All.{all_at, all_holds, none_at, none_holds}
use Rattle.plane.proofs.Depth.{depth_says}

-- ---- each test
-- two comparisons, both true
leb_both : (a b c d : ℕ) → (leb a b && leb c d) ≡ true → (a ≤ b) × (c ≤ d)
leb_both a b c d e = (leb-true a b (and_left _ _ e), leb-true c d (and_right (leb a b) _ e))

pub sides_say : (width height : ℕ) → sides_suit width height ≡ true
    → ((1 ≤ width) × (width ≤ side_limit)) × ((1 ≤ height) × (height ≤ side_limit))
unfolding sides_suit
sides_say width height e =
    (leb_both 1 width width side_limit (and_left _ _ e), leb_both 1 height height side_limit (and_right (side_suits width) _ e))

reach_says : (least width height : ℕ) → sides_reach least width height ≡ true → (least ≤ width) × (least ≤ height)
unfolding sides_reach
reach_says least width height e = leb_both least width least height e

pub stride_says : (width stride : ℕ) → stride_suits width stride ≡ true → (width ≤ stride) × (stride ≤ stride_limit)
unfolding stride_suits
stride_says width stride e = leb_both width stride stride stride_limit e

module _ (size : Size) (p : Plane) where
  pub long_says : long_enough size p ≡ true → Long size p
  unfolding long_enough
  long_says e = leb-true _ _ e

  samples_say : samples_suit size p ≡ true → (r c : ℕ) → r < size.height → c < size.width → sample_at p r c ≤ max_of size.depth
  unfolding samples_suit row_suits
  samples_say e r c lr lc = none_at _ _ size.width (all_at _ size.height e r lr) c lc

  -- 4, 5 and 6
  lawful : stride_suits size.width p.stride ≡ true → long_enough size p ≡ true → samples_suit size p ≡ true → Lawful size p
  lawful s l m =
      let stride = stride_says size.width p.stride s in
      record { stride_least = stride.0; stride_most = stride.1; bounded = record { long = long_says l; small = samples_say m } }

-- 1, 2 and 3
pub sized : (size : Size) (least : ℕ) → depth_suits size.wide size.depth ≡ true → sides_suit size.width size.height ≡ true
    → sides_reach least size.width size.height ≡ true → Sized size least
sized size least d s r =
    let depths = depth_says size.wide size.depth d in
    let sides = sides_say size.width size.height s in
    let reach = reach_says least size.width size.height r in
    record {
      depth_least = depths.0;
      depth_most = depths.1;
      width_least = sides.0.0;
      width_most = sides.0.1;
      height_least = sides.1.0;
      height_most = sides.1.1;
      width_reaches = reach.0;
      height_reaches = reach.1;
    }

-- ---- all of them
-- where every plane passes each of the three tests, each is lawful
each_lawful : (size : Size) (planes : List Plane) → every (λ (p : Plane). stride_suits size.width p.stride) planes ≡ true
    → every (long_enough size) planes ≡ true → every (samples_suit size) planes ≡ true → Each (Lawful size) planes
each_lawful size [] s l m = tt
each_lawful size (p ∷ more) s l m = (
  lawful size p (and_left _ _ s) (and_left _ _ l) (and_left _ _ m),
  each_lawful size more (and_right (stride_suits size.width p.stride) _ s) (and_right (long_enough size p) _ l)
      (and_right (samples_suit size p) _ m),
)

pub accepted : (size : Size) (planes : List Plane) (least : ℕ) → plane_refusal size planes least ≡ Ok tt → Accepted size planes least
unfolding size_tests layout_tests
accepted size planes least e =
    let t = passed (plane_tests size planes least) e in
    record {
      sized = sized size least t.0 t.1.0 t.1.1.0;
      each = each_lawful size planes t.1.1.1.0 t.1.1.1.1.0 t.1.1.1.1.1.0;
    }

-- ---- and back
pair_suits_lem : (a b c d : ℕ) → a ≤ b → c ≤ d → (leb a b && leb c d) ≡ true
pair_suits_lem a b c d l m = rw (le-leb a b l, le-leb c d m)

module _ (size : Size) where
  each_passes : (planes : List Plane) → Each (Lawful size) planes
      → (every (λ (p : Plane). stride_suits size.width p.stride) planes ≡ true)
      × ((every (long_enough size) planes ≡ true) × (every (samples_suit size) planes ≡ true))
  unfolding stride_suits long_enough samples_suit row_suits
  each_passes [] e = (refl, (refl, refl))
  each_passes (p ∷ more) e =
      let rest = each_passes more e.1 in
      let b = e.0.bounded in (
        rw (pair_suits_lem size.width p.stride p.stride stride_limit e.0.stride_least e.0.stride_most) rest.0,
        (
          rw (le-leb _ _ b.long) rest.1.0,
          rw (all_holds _ size.height (λ r lr. none_holds _ _ size.width (λ c lc. b.small r c lr lc))) rest.1.1,
        ),
      )

pub passes : (size : Size) (planes : List Plane) (least : ℕ) → Accepted size planes least → plane_refusal size planes least ≡ Ok tt
unfolding size_tests layout_tests depth_suits sides_suit sides_reach
passes size planes least a =
    let s = a.sized in
    let e = each_passes size planes a.each in
    none_broken (plane_tests size planes least) (
      pair_suits_lem _ _ _ _ s.depth_least s.depth_most,
      (
        rw (
          pair_suits_lem 1 size.width size.width side_limit s.width_least s.width_most,
          pair_suits_lem 1 size.height size.height side_limit s.height_least s.height_most,
        ),
        (pair_suits_lem _ _ _ _ s.width_reaches s.height_reaches, (e.0, (e.1.0, (e.1.1, tt)))),
      ),
    )

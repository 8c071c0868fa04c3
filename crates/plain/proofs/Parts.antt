-- The sums on the way, each from the one before, up to `moments_at`; and that each of them has room, since a part of a sum of whole numbers
-- is at most the sum, and the whole fits by demand 3. Assumes nothing.
use mathlib.Core.Path.{◌≡◌, refl, ◌∙◌, subst⁻¹}
use mathlib.Core.Bool.{Bool, true, false, ◌&&◌}
use mathlib.Core.List.{List}
use Prim.Native.Nat.{ℕ, ◌+◌, ◌-◌, ◌*◌, ◌/◌, ◌≤◌, ◌<◌}
use native.Mathlib.Nat.{mul_assoc, mul-zero, mul-one, le_trans}
use native.Mathlib.Omega.{arith}
use borrow.Author.Tests.{leb-true, leb-false, ltb-true, ltb-false}
use lib.Dec.{leb, ltb}
use lib.ListN.{length}
use Rattle.refusal.proofs.Chain.{and_left, and_right}
use Rattle.plane.specs.Plane.{Planes, sample_at}
use Rattle.plane.specs.Inner.Lawful.{AcceptedPair}
use Rattle.plane.proofs.Limits.{side_small}
use Rattle.plane.proofs.Sums.{sum_none, sum_more, sum_mono, sum_term}
use Rattle.kernel.specs.Kernel.{tap, lent_total, lawful}
use Rattle.window.specs.Moments.{clipped, seen_at, moment_at, moments_at}
use Rattle.window.specs.declared.Moments.{Moments}
use Rattle.window.proofs.Sums.Windows.{clipped_in, clipped_below, clipped_above}
use Rattle.window.proofs.Demand.{lent_sums}
use Rattle.plain.specs.Inner.Parts.{place_of, row_to, rows_to, inside_of, six_of, weighed_of, plus_of, no_moments, Fits}

-- ---- what a place shows, where it lies inside and where it does not
along : (off side j : ℕ) → inside_of off side j ≡ true → (off ≤ j) × (j < off + side)
along off side j e = (leb-true _ _ (and_left _ _ e), ltb-true _ _ (and_right (leb off j) _ e))

module _ (off side : ℕ) (f : ℕ → ℕ) (j : ℕ) where
  shown : inside_of off side j ≡ true → clipped off side f j ≡ f (j - off)
  shown e = let l = along off side j e in clipped_in off side f j l.0 l.1

  hidden : inside_of off side j ≡ false → clipped off side f j ≡ 0
  hidden e = go (leb off j) refl e
    where
      go : (b : Bool) → leb off j ≡ b → (b && ltb j (off + side)) ≡ false → clipped off side f j ≡ 0
      go true l e = clipped_above off side f j (ltb-false _ _ e)
      go false l e = clipped_below off side f j (leb-false _ _ l)

module _ (ker : List ℕ) (width height : ℕ) (x y i j : ℕ) where
  -- both sides of it
  abbrev pub inside_both : Bool
  inside_both = inside_of (length ker / 2) height (y + i) && inside_of (length ker / 2) width (x + j)

  -- where a call for each side answered so, it is their answer
  pub found : {down across b : Bool} → down ≡ inside_of (length ker / 2) height (y + i) → across ≡ inside_of (length ker / 2) width (x + j)
      → (down && across) ≡ b → inside_both ≡ b
  found d a e = rw (d, a) at e

  -- what the test says
  pub reaches : inside_both ≡ true
      → ((length ker / 2 ≤ y + i) × (y + i < length ker / 2 + height)) × ((length ker / 2 ≤ x + j) × (x + j < length ker / 2 + width))
  reaches e =
      (along (length ker / 2) height (y + i) (and_left _ _ e), along (length ker / 2) width (x + j) (and_right (inside_of (length ker / 2) height (y + i)) _ e))

  seen_inside : (v : ℕ → ℕ → ℕ) → inside_both ≡ true
      → seen_at ker width height v (x + j) (y + i) ≡ v (y + i - length ker / 2) (x + j - length ker / 2)
  seen_inside v e =
      shown (length ker / 2) height _ (y + i) (and_left _ _ e)
      ∙ shown (length ker / 2) width (v (y + i - length ker / 2)) (x + j) (and_right (inside_of (length ker / 2) height (y + i)) _ e)

  seen_outside : (v : ℕ → ℕ → ℕ) → inside_both ≡ false → seen_at ker width height v (x + j) (y + i) ≡ 0
  seen_outside v e = go (inside_of (length ker / 2) height (y + i)) refl e
    where
      go : (b : Bool) → inside_of (length ker / 2) height (y + i) ≡ b → (b && inside_of (length ker / 2) width (x + j)) ≡ false
          → seen_at ker width height v (x + j) (y + i) ≡ 0
      go true l e = shown (length ker / 2) height _ (y + i) l ∙ hidden (length ker / 2) width (v (y + i - length ker / 2)) (x + j) e
      go false l e = hidden (length ker / 2) height _ (y + i) l

  pub place_inside : (a b : ℕ → ℕ → ℕ) → inside_both ≡ true
      → weighed_of (tap ker i * tap ker j) (a (y + i - length ker / 2) (x + j - length ker / 2)) (b (y + i - length ker / 2) (x + j - length ker / 2))
      ≡ six_of (place_of ker width height x y i j) a b
  unfolding place_of
  place_inside a b e =
      simp (
        seen_inside a e,
        seen_inside b e,
        seen_inside (λ (r c : ℕ). a r c * a r c) e,
        seen_inside (λ (r c : ℕ). a r c * b r c) e,
        seen_inside (λ (r c : ℕ). b r c * b r c) e,
        seen_inside (λ (r c : ℕ). 1) e,
        mul-one,
        mul_assoc,
      )

  pub place_outside : (a b : ℕ → ℕ → ℕ) → inside_both ≡ false → no_moments ≡ six_of (place_of ker width height x y i j) a b
  unfolding place_of
  place_outside a b e =
      rw (
        seen_outside a e,
        seen_outside b e,
        seen_outside (λ (r c : ℕ). a r c * a r c) e,
        seen_outside (λ (r c : ℕ). a r c * b r c) e,
        seen_outside (λ (r c : ℕ). b r c * b r c) e,
        seen_outside (λ (r c : ℕ). 1) e,
        mul-zero,
      )

-- ---- one place, and one row, more
module _ (F G H : (ℕ → ℕ → ℕ) → ℕ) (a b : ℕ → ℕ → ℕ) where
  six_plus : ((v : ℕ → ℕ → ℕ) → H v ≡ F v + G v) → plus_of (six_of F a b) (six_of G a b) ≡ six_of H a b
  six_plus e = simp (e a, e b, e (λ (r c : ℕ). a r c * a r c), e (λ (r c : ℕ). a r c * b r c), e (λ (r c : ℕ). b r c * b r c), e (λ (r c : ℕ). 1))

module _ (F : (ℕ → ℕ → ℕ) → ℕ) (a b : ℕ → ℕ → ℕ) where
  six_none : ((v : ℕ → ℕ → ℕ) → F v ≡ 0) → no_moments ≡ six_of F a b
  six_none e = simp (e a, e b, e (λ (r c : ℕ). a r c * a r c), e (λ (r c : ℕ). a r c * b r c), e (λ (r c : ℕ). b r c * b r c), e (λ (r c : ℕ). 1))

module _ (ker : List ℕ) (width height : ℕ) (a b : ℕ → ℕ → ℕ) (x y : ℕ) where
  pub row_none : (i : ℕ) → no_moments ≡ six_of (row_to ker width height x y i 0) a b
  unfolding row_to
  row_none i = six_none (row_to ker width height x y i 0) a b (λ v. sum_none _)

  pub row_more : (i j : ℕ) → plus_of (six_of (row_to ker width height x y i j) a b) (six_of (place_of ker width height x y i j) a b)
      ≡ six_of (row_to ker width height x y i (j + 1)) a b
  unfolding row_to
  row_more i j =
      six_plus (row_to ker width height x y i j) (place_of ker width height x y i j) (row_to ker width height x y i (j + 1)) a b (λ v. sum_more _ j)

  pub rows_none : no_moments ≡ six_of (rows_to ker width height x y 0) a b
  unfolding rows_to
  rows_none = six_none (rows_to ker width height x y 0) a b (λ v. sum_none _)

  pub rows_more : (i : ℕ) → plus_of (six_of (rows_to ker width height x y i) a b) (six_of (row_to ker width height x y i (length ker)) a b)
      ≡ six_of (rows_to ker width height x y (i + 1)) a b
  unfolding rows_to
  rows_more i =
      six_plus (rows_to ker width height x y i) (row_to ker width height x y i (length ker)) (rows_to ker width height x y (i + 1)) a b
      (λ v. sum_more _ i)

  -- all rows are the sums of the definition
  pub rows_all : {s : Moments} {n : ℕ} → s ≡ six_of (rows_to ker width height x y n) a b → n ≡ length ker → s ≡ moments_at ker width height a b x y
  unfolding rows_to row_to place_of moment_at
  rows_all e all = rw all at e

-- ---- room

-- sums
module _ (ker : List ℕ) (width height : ℕ) (x y : ℕ) (v : ℕ → ℕ → ℕ) where
  rows_le : (n : ℕ) → n ≤ length ker → rows_to ker width height x y n v ≤ moment_at ker width height v x y
  unfolding rows_to row_to place_of moment_at
  rows_le n l = sum_mono _ n (length ker) l

  row_le : (i n : ℕ) → i < length ker → n ≤ length ker → row_to ker width height x y i n v ≤ moment_at ker width height v x y
  unfolding rows_to row_to place_of moment_at
  row_le i n l m = le_trans (sum_mono _ n (length ker) m) (sum_term _ (length ker) i l)

  place_le : (i j : ℕ) → i < length ker → j < length ker → place_of ker width height x y i j v ≤ moment_at ker width height v x y
  unfolding rows_to row_to place_of moment_at
  place_le i j l m = le_trans (sum_term _ (length ker) j m) (sum_term _ (length ker) i l)

-- at a centre of two accepted planes
module _ (p : Planes) (accepted : AcceptedPair p 0) (ker : List ℕ) (ok : lawful lent_total ker ≡ true) (x y : ℕ)
    (l : x < p.size.width) (m : y < p.size.height) where
  abbrev six : ((ℕ → ℕ → ℕ) → ℕ) → Moments
  six F = six_of F (sample_at p.a) (sample_at p.b)

  six_fits : (F : (ℕ → ℕ → ℕ) → ℕ) → ((v : ℕ → ℕ → ℕ) → F v ≤ moment_at ker p.size.width p.size.height v x y) → Fits (six F)
  six_fits F h =
      let fit = (lent_sums p 0 accepted ker ok x y l m).fit in
      record {
        mux_fits = omega (arith, h (sample_at p.a), fit.mux_fits);
        muy_fits = omega (arith, h (sample_at p.b), fit.muy_fits);
        x2_fits = omega (arith, h (λ (r c : ℕ). sample_at p.a r c * sample_at p.a r c), fit.x2_fits);
        xy_fits = omega (arith, h (λ (r c : ℕ). sample_at p.a r c * sample_at p.b r c), fit.xy_fits);
        y2_fits = omega (arith, h (λ (r c : ℕ). sample_at p.b r c * sample_at p.b r c), fit.y2_fits);
        w_fits = omega (arith, h (λ (r c : ℕ). 1), fit.w_fits);
      }

  place_fits : (i j : ℕ) → i < length ker → j < length ker → Fits (six (place_of ker p.size.width p.size.height x y i j))
  place_fits i j k n = six_fits _ (λ v. place_le ker p.size.width p.size.height x y v i j k n)

  -- so the samples of a place inside may be weighed
  pub weighed_fits : (i j : ℕ) → i < length ker → j < length ker → inside_both ker p.size.width p.size.height x y i j ≡ true
      → Fits (weighed_of (tap ker i * tap ker j) (sample_at p.a (y + i - length ker / 2) (x + j - length ker / 2))
      (sample_at p.b (y + i - length ker / 2) (x + j - length ker / 2)))
  weighed_fits i j k n e =
      subst⁻¹ (λ (t : Moments). Fits t) (place_inside ker p.size.width p.size.height x y i j (sample_at p.a) (sample_at p.b) e)
      (place_fits i j k n)

  -- and a sum with one place, or one row, more has room
  pub row_room : {s t : Moments} (i j : ℕ) → s ≡ six (row_to ker p.size.width p.size.height x y i j)
      → t ≡ six (place_of ker p.size.width p.size.height x y i j) → i < length ker → j < length ker → Fits (plus_of s t)
  row_room i j e f k n =
      rw (e, f)
      (subst⁻¹ (λ (t : Moments). Fits t) (row_more ker p.size.width p.size.height (sample_at p.a) (sample_at p.b) x y i j)
      (six_fits _ (λ v. row_le ker p.size.width p.size.height x y v i (j + 1) k (omega arith))))

  pub rows_room : {s t : Moments} (i : ℕ) → s ≡ six (rows_to ker p.size.width p.size.height x y i)
      → t ≡ six (row_to ker p.size.width p.size.height x y i (length ker)) → i < length ker → Fits (plus_of s t)
  rows_room i e f k =
      rw (e, f)
      (subst⁻¹ (λ (t : Moments). Fits t) (rows_more ker p.size.width p.size.height (sample_at p.a) (sample_at p.b) x y i)
      (six_fits _ (λ v. rows_le ker p.size.width p.size.height x y v (i + 1) (omega arith))))

-- what a kernel place rests on
pub ruleset place_steps = (side_small, found, place_inside, place_outside)

-- What a user may count on, stated about the definitions: the winner is no farther from the original than the other, the candidates may be exchanged,
-- the plane that is handed back is empty exactly where the call refuses, and all is as the squared errors of the two say. Assumes nothing.
use mathlib.Core.Path.{◌≡◌, refl, sym, ap, ◌∙◌}
use mathlib.Core.Bool.{Bool, true, false, cond}
use mathlib.Core.List.{List, [], ◌∷◌}
use Prim.Native.Nat.{ℕ, zero, suc, ◌≤◌, ◌<◌}
use native.Mathlib.Nat.{le_of_lt}
use native.Mathlib.Omega.{arith}
use borrow.Author.Tests.{lt-ltb, le-ltb, ltb-true, ltb-false}
use lib.Dec.{ltb}
use lib.Ieee.{Float}
use lib.ListN.{length}
use Rattle.std.specs.Prelude.{Result, Ok, Err}
use Rattle.refusal.specs.declared.Refusal.{Refusal}
use Rattle.refusal.specs.First.{Verdict, unless_refused, lower_of}
use Rattle.number.specs.Steps.{double}
use Rattle.plane.specs.Plane.{Size, Plane}
use Rattle.plane.specs.Inner.Lawful.{Lawful, Sized, Equivalent}
use Rattle.plane.proofs.Accept.{accepted}
use Rattle.plane.proofs.Exchange.{refusal_equivalent}
use Rattle.psnr.specs.Record.{plane_suits}
use Rattle.psnr.specs.Squared.{record_of, error_answer, squared_error_refusal, squared_error_of}
use Rattle.psnr.proofs.Accept.{planes_alone}
use Rattle.psnr.proofs.Laws.{score_visible}
use Rattle.better.specs.declared.Better.{Better}
use Rattle.better.specs.declared.Better.TheVariants.{First, Second}
use Rattle.better.specs.Better.{Contest, first_pair, second_pair, first_error, second_error, smaller_of, better_refusal, better_of, handed, winner_of}
use Rattle.better.proofs.Judging.{lower_none, planes_shared, planes_swap}

-- ---- the smaller of two errors
first_smaller : (a b : ℕ) (e : Float) → smaller_of a b ≡ First e → (e ≡ double a) × (a ≤ b)
first_smaller a b e h = go (ltb b a) refl h
  where
    go : (t : Bool) → ltb b a ≡ t → cond t (Second (double b)) (First (double a)) ≡ First e → (e ≡ double a) × (a ≤ b)
    go true t s = let z : suc zero ≡ zero = cc in (cc, omega (arith, z))
    go false t s = (cc, ltb-false b a t)

second_smaller : (a b : ℕ) (e : Float) → smaller_of a b ≡ Second e → (e ≡ double b) × (b < a)
second_smaller a b e h = go (ltb b a) refl h
  where
    go : (t : Bool) → ltb b a ≡ t → cond t (Second (double b)) (First (double a)) ≡ Second e → (e ≡ double b) × (b < a)
    go true t s = (cc, ltb-true b a t)
    go false t s = let z : suc zero ≡ zero = cc in (cc, omega (arith, z))

-- ---- the answer, from a refusal n and the errors a and b
abbrev answer : Verdict → ℕ → ℕ → Result Better Refusal
answer v a b = unless_refused v (Ok (smaller_of a b))

first_answer : (v : Verdict) (a b : ℕ) (e : Float) → answer v a b ≡ Ok (First e) → (e ≡ double a) × (a ≤ b)
first_answer (Ok _) a b e h = first_smaller a b e cc
first_answer (Err r) a b e h = let z : suc zero ≡ zero = cc in (cc, omega (arith, z))

second_answer : (v : Verdict) (a b : ℕ) (e : Float) → answer v a b ≡ Ok (Second e) → (e ≡ double b) × (b < a)
second_answer (Ok _) a b e h = second_smaller a b e cc
second_answer (Err r) a b e h = let z : suc zero ≡ zero = cc in (cc, omega (arith, z))

-- with the errors exchanged
abbrev pub other : Result Better Refusal → Result Better Refusal
other (Ok (First e)) = Ok (Second e)
other (Ok (Second e)) = Ok (First e)
other (Err r) = Err r

unlike_smaller : (a b : ℕ) → (a ≡ b → ⊥) → Ok (smaller_of b a) ≡ other (Ok (smaller_of a b))
unlike_smaller a b unlike = go (ltb b a) refl
  where
    go : (t : Bool) → ltb b a ≡ t → Ok (smaller_of b a) ≡ other (Ok (smaller_of a b))
    go true t = rw (t, le-ltb a b (le_of_lt (ltb-true b a t)))
    go false t =
        let below : a < b = omega (arith, ltb-false b a t, unlike) in
        rw (t, lt-ltb a b below)

unlike_answer : (v : Verdict) (a b : ℕ) → (a ≡ b → ⊥) → answer v b a ≡ other (answer v a b)
unlike_answer (Ok _) a b unlike = unlike_smaller a b unlike
unlike_answer (Err r) a b unlike = refl

-- what is handed back is empty only where the call refuses
some_handed : (a b : ℕ) (f s : List ℕ) → 1 ≤ length f → 1 ≤ length s → handed (Ok (smaller_of a b)) f s ≡ [] → ⊥
some_handed a b f s lf ls e = go (ltb b a) e
  where
    go : (t : Bool) → handed (Ok (cond t (Second (double b)) (First (double a)))) f s ≡ [] → ⊥
    go true z = omega (arith, ap length z, ls)
    go false z = omega (arith, ap length z, lf)

empty_answer : (v : Verdict) (a b : ℕ) (f s : List ℕ) → (v ≡ Ok tt → (1 ≤ length f) × (1 ≤ length s)) → handed (answer v a b) f s ≡ []
    → (r : Refusal) × (v ≡ Err r) × (answer v a b ≡ Err r)
empty_answer (Ok _) a b f s some e = absurd (some_handed a b f s (some refl).0 (some refl).1 e)
empty_answer (Err r) a b f s some e = (r, refl, refl)

-- ---- of three planes
-- with the candidates exchanged
abbrev pub swapped : Contest → Contest
swapped c = record { size = c.size; original = c.original; first = c.second; second = c.first }

module _ (c : Contest) where
  -- the winner's error is at most the other's, and on a tie the first wins
  pub winner_least : (e : Float) → (better_of c ≡ Ok (First e) → (e ≡ double (first_error c)) × (first_error c ≤ second_error c))
      × (better_of c ≡ Ok (Second e) → (e ≡ double (second_error c)) × (second_error c < first_error c))
  unfolding better_of
  winner_least e = (
    first_answer (better_refusal c) (first_error c) (second_error c) e,
    second_answer (better_refusal c) (first_error c) (second_error c) e,
  )

  -- exchanged candidates are refused alike
  pub refused_alike : better_refusal (swapped c) ≡ better_refusal c
  refused_alike = planes_swap c.size c.original c.first c.second 0

  -- they exchange the answer, but on a tie
  pub exchanged : (first_error c ≡ second_error c → ⊥) → better_of (swapped c) ≡ other (better_of c)
  unfolding better_of
  exchanged unlike = rw refused_alike (unlike_answer (better_refusal c) (first_error c) (second_error c) unlike)

  -- and on a tie it is the same
  pub tied : first_error c ≡ second_error c → better_of (swapped c) ≡ better_of c
  unfolding better_of
  tied e = rw (refused_alike, e)

  -- ---- the plane that is handed back
  -- an accepted plane has a sample
  some_sample : (p : Plane) → Sized c.size 0 → Lawful c.size p → 1 ≤ length p.samples
  some_sample p s l = omega (arith, s.width_least, l.bounded.long)

  pub empty_where_refused : (r : Refusal) → better_of c ≡ Err r → winner_of c ≡ []
  empty_where_refused r e = rw e

  pub refused_where_empty : winner_of c ≡ [] → (r : Refusal) × (better_refusal c ≡ Err r) × (better_of c ≡ Err r)
  unfolding better_of
  refused_where_empty e =
      let some : better_refusal c ≡ Ok tt → (1 ≤ length c.first.samples) × (1 ≤ length c.second.samples) = λ z.
      let t = accepted c.size (c.original ∷ c.first ∷ c.second ∷ []) 0 z in
      (some_sample c.first t.sized t.each.1.0, some_sample c.second t.sized t.each.1.1.0) in
      empty_answer (better_refusal c) (first_error c) (second_error c) c.first.samples c.second.samples some e

  -- ---- beside the squared error of each pair, under whatever frame and plane it is asked for
  module _ (frame plane : ℕ) (suits : plane_suits plane ≡ true) where
    -- of the two refusals the lower
    pub lower_refusal : better_refusal c ≡ lower_of (squared_error_refusal (first_pair c) plane) (squared_error_refusal (second_pair c) plane)
    lower_refusal =
        rw (planes_alone plane (first_pair c) suits, planes_alone plane (second_pair c) suits)
        (planes_shared c.size c.original c.first c.second 0)

    -- where there is none, both are recorded, and their errors are those that are compared
    pub as_recorded : better_refusal c ≡ Ok tt
        → (squared_error_of (first_pair c) frame plane ≡ Ok (error_answer (first_error c) (record_of (first_pair c) frame plane)))
        × (squared_error_of (second_pair c) frame plane ≡ Ok (error_answer (second_error c) (record_of (second_pair c) frame plane)))
    unfolding squared_error_of
    as_recorded z =
        let both = lower_none (squared_error_refusal (first_pair c) plane) (squared_error_refusal (second_pair c) plane) (sym lower_refusal ∙ z) in
        (rw both.0, rw both.1)

-- ---- what is not seen
-- padding, strides and what comes after the last row do not count
module _ (size : Size) {o a b o' a' b' : Plane} (p : Equivalent size o o') (q : Equivalent size a a') (r : Equivalent size b b') where
  abbrev one : Contest
  one = record { size = size; original = o; first = a; second = b }

  abbrev two : Contest
  two = record { size = size; original = o'; first = a'; second = b' }

  pub visible_only : better_of one ≡ better_of two
  unfolding better_of
  visible_only =
      rw (
        planes_shared size o a b 0,
        planes_shared size o' a' b' 0,
        refusal_equivalent size 0 p q,
        refusal_equivalent size 0 p r,
        score_visible size o a o' a' p.alike q.alike,
        score_visible size o b o' b' p.alike r.alike,
      )

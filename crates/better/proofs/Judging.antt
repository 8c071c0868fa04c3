-- Three planes judged two at a time, the original beside each candidate: of the two refusals the lower is that of all three, and so the two
-- findings make the answer. Assumes nothing.
use Rattle.std.proofs.Common.{◌≡◌, ℕ, Bool, true, false, ◌&&◌, leb, [], ◌∷◌, Ok, Err, refl, ap, ◌∙◌, arith, le-leb, leb-true}
use Rattle.std.proofs.lemmas.Bool.{leb-false}
use mathlib.Core.Bool.{and_comm, and-true}
use Rattle.refusal.specs.declared.Refusal.{Refusal}
use Rattle.refusal.specs.declared.Refusal.TheVariants as no
use Rattle.refusal.specs.Numbers.{number_of}
use Rattle.refusal.specs.First.{Verdict, unless, first_broken, unless_refused, lower_of}
use Rattle.refusal.proofs.Chain.{together}
use Rattle.plane.specs.Plane.{Size, Plane, Planes, every}
use Rattle.plane.specs.Tests.{size_tests, layout_tests, plane_refusal, pair_refusal, stride_suits, long_enough, samples_suit}
use Rattle.plane.specs.Inner.Unread.{unread_refusal}
use Rattle.plane.proofs.Several.{one_more}
use Rattle.plane.proofs.Unread.{pair_by}
use Rattle.psnr.specs.Inner.Walk.{walked_if, walked_of}
use Rattle.psnr.specs.Squared.{squared_error_score}
use Rattle.better.specs.Better.{Contest, first_pair, second_pair, first_error, second_error, smaller_of, better_of}
use Rattle.better.specs.Inner.Judged.{judged_of, least_of, decided}

-- ---- the lower of two refusals that share one

least_self : (x : Refusal) → x ≡ least_of x x
least_self x = go (leb (number_of x) (number_of x)) refl
  where
    go : (s : Bool) → leb (number_of x) (number_of x) ≡ s → x ≡ least_of x x
    go true p = rw p
    go false p = rw p

least_again : (o b : Refusal) → least_of o b ≡ least_of o (least_of o b)
least_again o b = go (leb (number_of o) (number_of b)) refl
  where
    go : (s : Bool) → leb (number_of o) (number_of b) ≡ s → least_of o b ≡ least_of o (least_of o b)
    go true p = simp p (least_self o)
    go false p = simp p

least_first : (o a : Refusal) → least_of o a ≡ least_of (least_of o a) o
least_first o a = go (leb (number_of o) (number_of a)) refl
  where
    go : (s : Bool) → leb (number_of o) (number_of a) ≡ s → least_of o a ≡ least_of (least_of o a) o
    go true p = simp p (least_self o)
    go false p =
        let q : leb (number_of a) (number_of o) ≡ true = le-leb _ _ (omega (arith, leb-false (number_of o) (number_of a) p)) in
        simp (p, q)

least_shared : (o a b : Refusal) → least_of o (least_of a b) ≡ least_of (least_of o a) (least_of o b)
least_shared o a b = go (leb (number_of o) (number_of a)) refl (leb (number_of o) (number_of b)) refl (leb (number_of a) (number_of b)) refl
  where
    go : (s : Bool) → leb (number_of o) (number_of a) ≡ s → (t : Bool) → leb (number_of o) (number_of b) ≡ t
        → (u : Bool) → leb (number_of a) (number_of b) ≡ u → least_of o (least_of a b) ≡ least_of (least_of o a) (least_of o b)
    go true p true q true r = simp (p, q, r) (least_self o)
    go true p true q false r = simp (p, q, r) (least_self o)
    go true p false q true r = absurd (omega (arith, leb-true _ _ p, leb-false _ _ q, leb-true _ _ r))
    go true p false q false r = simp (p, q, r)
    go false p true q true r =
        let l : leb (number_of a) (number_of o) ≡ true = le-leb _ _ (omega (arith, leb-false (number_of o) (number_of a) p)) in
        simp (p, q, r, l)
    go false p true q false r = absurd (omega (arith, leb-false _ _ p, leb-true _ _ q, leb-false _ _ r))
    go false p false q true r = simp (p, q, r)
    go false p false q false r = simp (p, q, r)

lower_self : (v : Verdict) → v ≡ lower_of v v
lower_self (Ok _) = refl
lower_self (Err x) = ap Err (least_self x)

lower_shared : (o a b : Verdict) → lower_of o (lower_of a b) ≡ lower_of (lower_of o a) (lower_of o b)
lower_shared (Ok _) a b = refl
lower_shared (Err o) (Ok _) (Ok _) = ap Err (least_self o)
lower_shared (Err o) (Ok _) (Err b) = ap Err (least_again o b)
lower_shared (Err o) (Err a) (Ok _) = ap Err (least_first o a)
lower_shared (Err o) (Err a) (Err b) = ap Err (least_shared o a b)

-- there is none where neither refuses
pub lower_none : (a b : Verdict) → lower_of a b ≡ Ok tt → (a ≡ Ok tt) × (b ≡ Ok tt)
lower_none (Ok _) b z = (refl, z)
lower_none (Err x) (Ok _) z = cc
lower_none (Err x) (Err y) z = cc

-- ---- three planes, two at a time
module _ (size : Size) (o a b : Plane) where
  abbrev alone : Plane → Verdict
  alone p = first_broken (layout_tests size (p ∷ []))

  layout_shared : first_broken (layout_tests size (o ∷ a ∷ b ∷ []))
      ≡ lower_of (first_broken (layout_tests size (o ∷ a ∷ []))) (first_broken (layout_tests size (o ∷ b ∷ [])))
  layout_shared =
      rw (one_more size o a (b ∷ []), one_more size a b [], one_more size o a [], one_more size o b [])
      (lower_shared (alone o) (alone a) (alone b))

  pub planes_shared : (least : ℕ) → plane_refusal size (o ∷ a ∷ b ∷ []) least
      ≡ lower_of (plane_refusal size (o ∷ a ∷ []) least) (plane_refusal size (o ∷ b ∷ []) least)
  planes_shared least =
      let sizes = size_tests size least in
      together sizes (layout_tests size (o ∷ a ∷ b ∷ []))
      ∙ rw (together sizes (layout_tests size (o ∷ a ∷ [])), together sizes (layout_tests size (o ∷ b ∷ [])), layout_shared)
      (go (first_broken sizes) (first_broken (layout_tests size (o ∷ a ∷ []))) (first_broken (layout_tests size (o ∷ b ∷ []))))
    where
      go : (v x y : Verdict) → unless_refused v (lower_of x y) ≡ lower_of (unless_refused v x) (unless_refused v y)
      go (Ok _) x y = refl
      go (Err r) x y = lower_self (Err r)

-- the candidates may be exchanged
every_swap : (f : Plane → Bool) (o a b : Plane) → every f (o ∷ b ∷ a ∷ []) ≡ every f (o ∷ a ∷ b ∷ [])
every_swap f o a b = simp and-true (ap (λ (t : Bool). f o && t) (and_comm (f b) (f a)))

pub planes_swap : (size : Size) (o a b : Plane) (least : ℕ) → plane_refusal size (o ∷ b ∷ a ∷ []) least ≡ plane_refusal size (o ∷ a ∷ b ∷ []) least
unfolding layout_tests
planes_swap size o a b least =
    rw (
      every_swap (λ (p : Plane). stride_suits size.width p.stride) o a b,
      every_swap (long_enough size) o a b,
      every_swap (samples_suit size) o a b,
    )

-- ---- a finding: after 1 to 5 the walk decides
pub judged_by : (p : Planes) → unread_refusal p 0 ≡ Ok tt → walked_of p ≡ judged_of p
unfolding walked_of
judged_by p e = rw (pair_by p 0, e) (go (samples_suit p.size p.a && samples_suit p.size p.b) (squared_error_score p))
  where
    go : (suit : Bool) (sum : ℕ) → walked_if suit sum ≡ unless_refused (unless suit no.Sample (Ok tt)) (Ok sum)
    go true sum = refl
    go false sum = refl

pub judged_early : (p : Planes) {r : Refusal} → Err r ≡ unread_refusal p 0 → Err r ≡ judged_of p
judged_early p e = rw (pair_by p 0, ← e) refl

-- ---- the answer from two findings
-- two refusals and two errors
findings : (n m : Verdict) (first second : ℕ) → decided (unless_refused n (Ok first)) (unless_refused m (Ok second))
    ≡ unless_refused (lower_of n m) (Ok (smaller_of first second))
findings (Ok _) (Ok _) first second = refl
findings (Ok _) (Err y) first second = refl
findings (Err x) (Ok _) first second = refl
findings (Err x) (Err y) first second = refl

pub decided_better : (c : Contest) → decided (judged_of (first_pair c)) (judged_of (second_pair c)) ≡ better_of c
unfolding better_of
decided_better c =
    rw (planes_shared c.size c.original c.first c.second 0)
    (findings (pair_refusal (first_pair c) 0) (pair_refusal (second_pair c) 0) (first_error c) (second_error c))

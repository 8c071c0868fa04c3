-- What a call's refusal does not turn on: which plane comes first, and what stands in padding or after the last row. Assumes nothing.
use mathlib.Core.Path.{◌≡◌, refl}
use mathlib.Core.Bool.{Bool, true, false, ◌&&◌}
use mathlib.Core.List.{[], ◌∷◌}
use Prim.Native.Nat.{ℕ}
use Rattle.plane.specs.Plane.{Size, Plane, planes_of, every}
use Rattle.plane.specs.Tests.{layout_tests, pair_refusal, long_enough, row_suits, samples_suit, stride_suits}
use Rattle.plane.specs.Inner.Lawful.{Alike, Equivalent}
use Rattle.plane.proofs.All.{all_ext, none_ext}

-- ---- the two planes exchanged
every_swap : (f : Plane → Bool) (a b : Plane) → every f (a ∷ b ∷ []) ≡ every f (b ∷ a ∷ [])
every_swap f a b = go (f a) (f b)
  where
    go : (p q : Bool) → (p && (q && true)) ≡ (q && (p && true))
    go true true = refl
    go true false = refl
    go false true = refl
    go false false = refl

module _ (size : Size) where
  pub refusal_exchanged : (a b : Plane) (least : ℕ) → pair_refusal (planes_of size a b) least ≡ pair_refusal (planes_of size b a) least
  unfolding layout_tests
  refusal_exchanged a b least =
      rw (every_swap (λ (p : Plane). stride_suits size.width p.stride) a b, every_swap (long_enough size) a b, every_swap (samples_suit size) a b)

  -- ---- planes of which a call can see no difference
  -- test 6 sees visible samples alone
  pub samples_alike : (a b : Plane) → Alike size a b → samples_suit size a ≡ samples_suit size b
  unfolding samples_suit row_suits
  samples_alike a b h = all_ext _ _ size.height (λ r lr. none_ext _ _ _ size.width (λ c lc. h r c lr lc))

  pub refusal_equivalent : {a b a' b' : Plane} (least : ℕ) → Equivalent size a a' → Equivalent size b b'
      → pair_refusal (planes_of size a b) least ≡ pair_refusal (planes_of size a' b') least
  unfolding layout_tests
  refusal_equivalent {a} {b} {a'} {b'} least p q =
      rw (p.strides, q.strides, p.lengths, q.lengths, samples_alike a a' p.alike, samples_alike b b' q.alike)

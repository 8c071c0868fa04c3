-- The tests 1 to 5, which need no sample, apart from 6: for a call that judges 6 while it reads. `proofs/Unread.antt` shows that the two
-- lists, one after the other, are those of Tests. Definitions only.
use Rattle.std.specs.Prelude.{Bool, List, [], ◌∷◌, ◌++◌, ℕ}
use Rattle.refusal.specs.declared.Refusal.{Refusal}
use Rattle.refusal.specs.declared.Refusal.TheVariants as no
use Rattle.refusal.specs.First.{Verdict, first_broken}
use Rattle.plane.specs.Plane.{Size, Plane, Planes, both, every}
use Rattle.plane.specs.Tests.{stride_suits, long_enough, samples_suit, size_tests}

-- how each plane is lent: 4 and 5
unfoldable pub lent_tests : Size → List Plane → List (Refusal × Bool)
lent_tests size planes =
    (no.Stride, every (λ (p : Plane). stride_suits size.width p.stride) planes)
    ∷ (no.Short, every (long_enough size) planes)
    ∷ []

-- what stands in each plane: 6
unfoldable pub read_tests : Size → List Plane → List (Refusal × Bool)
read_tests size planes = (no.Sample, every (samples_suit size) planes) ∷ []

abbrev pub unread_tests : Size → List Plane → ℕ → List (Refusal × Bool)
unread_tests size planes least = size_tests size least ++ lent_tests size planes

-- the lowest of 1 to 5 that applies to the two planes of a call
abbrev pub unread_refusal : Planes → ℕ → Verdict
unread_refusal p least = first_broken (unread_tests p.size (both p) least)

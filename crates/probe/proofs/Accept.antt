-- What holds where the downscale is not refused, and what is left where it is. Assumes nothing.
use mathlib.Core.Path.{◌≡◌}
use mathlib.Core.Bool.{true}
use mathlib.Core.List.{List, [], ◌∷◌}
use Prim.Native.Nat.{ℕ, ◌*◌, ◌≤◌, ◌<◌, ◌^◌}
use native.Mathlib.Omega.{arith}
use borrow.Author.Tests.{leb-true}
use lib.Dec.{leb}
use lib.ListN.{length}
use Rattle.std.specs.Prelude.{Ok}
use Rattle.refusal.specs.declared.Refusal.{Refusal}
use Rattle.refusal.specs.declared.Refusal.TheVariants as no
use Rattle.refusal.proofs.Chain.{passed}
use Rattle.plane.specs.Limits.{side_limit}
use Rattle.plane.specs.Plane.{at, needed, plane_of}
use Rattle.plane.specs.Inner.Lawful.{Bounded}
use Rattle.plane.specs.Tests.{sides_suit, none_above}
use Rattle.plane.proofs.Accept.{sides_say}
use Rattle.plane.proofs.All.{none_at}
use Rattle.plane.proofs.Rows.{inside}
use Rattle.window.specs.Moments.{most_sample}
use Rattle.plane.proofs.Limits.{area_fits}
use Rattle.downscale.proofs.Summed.{area_needed}
use Rattle.probe.specs.Downscale.{downscale_refusal}

-- the samples of sides that suit can be counted
pub sides_count : (width height : ℕ) → sides_suit width height ≡ true → height * width < 2 ^ 64
sides_count width height e = let s = sides_say width height e in area_fits s.1.1 s.0.1

-- what the downscale asks
pub sound : (width height : ℕ) (longs : List ℕ) → downscale_refusal width height longs ≡ Ok tt
    → (height ≤ side_limit) × Bounded most_sample width height (plane_of longs width)
sound width height longs e =
    let tests : List (Refusal × _) =
    (no.Size, sides_suit width height)
    ∷ (no.Short, leb (height * width) (length longs))
    ∷ (no.Sample, none_above most_sample (at longs) (length longs))
    ∷ [] in
    let t = passed tests e in
    let high = (sides_say width height t.0).1 in
    let long : needed width height width ≤ length longs = omega (arith, area_needed width height high.0, leb-true (height * width) (length longs) t.1.0) in (
      high.1,
      record { long = long; small = λ r c k l. none_at most_sample (at longs) (length longs) t.1.1.0 _ (inside width long l k) },
    )

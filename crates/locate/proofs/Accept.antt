-- What holds where no test of the map refuses, and what the answer is where one does. Assumes nothing.
use Rattle.std.proofs.Common.{◌≡◌, ℕ, ◌<◌, ◌≤◌, Bool, List, [], ◌∷◌, ◌++◌, length, drop, leb, leb-true, le-leb, sym, Ok, Err}
use Rattle.std.proofs.lemmas.Bool.{lt-leb}
use Rattle.refusal.specs.declared.Refusal.{Refusal}
use Rattle.refusal.specs.declared.Refusal.TheVariants as no
use Rattle.refusal.specs.First.{first_broken, unless_refused}
use Rattle.refusal.proofs.Chain.{halves, passed, stop, go_on, together}
use Rattle.plane.specs.Plane.{Planes, both}
use Rattle.plane.specs.Tests.{pair_tests, pair_refusal}
use Rattle.plane.specs.Inner.Lawful.{AcceptedPair}
use Rattle.plane.proofs.Accept.{accepted}
use Rattle.psnr.specs.Inner.Walk.{Walkable}
use Rattle.psnr.proofs.Squares.{walkable}
use Rattle.locate.specs.Map.{across_of, down_of, map_of, map_places, map_refusal, mapped_of, map_after}

-- planes that none of their tests refuses can be walked
pub pair_walkable : (p : Planes) → pair_refusal p 0 ≡ Ok tt → Walkable p
pair_walkable p e = walkable (accepted p.size (both p) 0 e)

module _ (p : Planes) (places : ℕ) where
  -- the map's own test, after those of the planes
  abbrev pub own : List (Refusal × Bool)
  own = (no.Scratch, leb (map_places p) places) ∷ []

  pub map_in_parts : map_refusal p places ≡ unless_refused (pair_refusal p 0) (first_broken own)
  map_in_parts = together (pair_tests p 0) own

  pub planes_refuse : {r : Refusal} → pair_refusal p 0 ≡ Err r → map_refusal p places ≡ Err r
  planes_refuse e = stop (pair_tests p 0) own e

  pub places_refuse : pair_refusal p 0 ≡ Ok tt → places < map_places p → map_refusal p places ≡ Err no.Scratch
  places_refuse e l = sym (go_on (pair_tests p 0) own e (rw (lt-leb (map_places p) places l)))

  pub none_refuses : pair_refusal p 0 ≡ Ok tt → map_places p ≤ places → map_refusal p places ≡ Ok tt
  none_refuses e l = sym (go_on (pair_tests p 0) own e (rw (le-leb (map_places p) places l)))

  -- where none refuses, the planes are lawful and the places enough
  pub map_taken : map_refusal p places ≡ Ok tt → AcceptedPair p 0 × (map_places p ≤ places)
  map_taken e =
      let h = halves (pair_tests p 0) own e in
      (accepted p.size (both p) 0 h.0, leb-true (map_places p) places (passed own h.1).0)

  pub map_walkable : map_refusal p places ≡ Ok tt → Walkable p
  map_walkable e = walkable (map_taken e).0

-- and then the answer is the tiles, and the map stands before what stood past it
module _ (p : Planes) (old : List ℕ) (e : map_refusal p (length old) ≡ Ok tt) where
  pub mapped_is : {across down : ℕ} → across ≡ across_of p → down ≡ down_of p → Ok (record { across = across; down = down }) ≡ mapped_of p old
  unfolding mapped_of
  mapped_is a d = rw (e, a, d)

  pub after_is : {need : ℕ} {map : List ℕ} → need ≡ map_places p → map ≡ map_of p → map ++ drop need old ≡ map_after p old
  unfolding map_after
  after_is c m = rw (e, c, m)

-- where one refuses, the answer is that, and every place stays
module _ (p : Planes) (old : List ℕ) {r : Refusal} (e : map_refusal p (length old) ≡ Err r) where
  pub mapped_not : Err r ≡ mapped_of p old
  unfolding mapped_of
  mapped_not = rw e

  pub after_not : old ≡ map_after p old
  unfolding map_after
  after_not = rw e

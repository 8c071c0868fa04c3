-- SCOPE, "Where planes differ": the first place, row by row, at which two planes differ. Definitions only.
use Rattle.std.specs.Prelude.{Bool, cond, not, ℕ, zero, suc, eqb, Option, None, Some, Result, Ok}
use Rattle.refusal.specs.declared.Refusal.{Refusal}
use Rattle.refusal.specs.First.{unless_refused}
use Rattle.plane.specs.Plane.{Planes, sample_at}
use Rattle.plane.specs.Tests.{pair_refusal}
use Rattle.locate.specs.declared.Place.{Place}

-- the samples in row r and column c differ
abbrev pub differ_at : Planes → ℕ → ℕ → Bool
differ_at p r c = not (eqb (sample_at p.a r c) (sample_at p.b r c))

-- row r and column c
abbrev pub place : ℕ → ℕ → Place
place r c = record { row = r; column = c }

-- what was found earlier stays; only where that is nothing does the later count
abbrev pub or_else : Option Place → Option Place → Option Place
or_else None later = later
or_else (Some x) later = Some x

-- the first place at which f holds among the first n columns of row r
unfoldable pub along_to : (ℕ → ℕ → Bool) → ℕ → ℕ → Option Place
along_to f r zero = None
along_to f r (suc n) = or_else (along_to f r n) (cond (f r n) (Some (place r n)) None)

-- and among the first n rows of so many columns
unfoldable pub down_to : (ℕ → ℕ → Bool) → ℕ → ℕ → Option Place
down_to f width zero = None
down_to f width (suc n) = or_else (down_to f width n) (along_to f n width)

-- the first visible place at which the planes differ
abbrev pub first_difference : Planes → Option Place
first_difference p = down_to (differ_at p) p.size.width p.size.height

-- the answer; it refuses the planes that the squared error refuses: 1 2 4 5 6
unfoldable pub located_of : Planes → Result (Option Place) Refusal
located_of p = unless_refused (pair_refusal p 0) (Ok (first_difference p))

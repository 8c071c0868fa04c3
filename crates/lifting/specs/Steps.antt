-- SCOPE, "The transform": the steps over whole numbers of any size. Definitions only.
use Rattle.std.specs.Prelude.{List, [], ◌∷◌, ◌++◌, ℕ, ◌-◌, ◌^◌, ℤ, pos, ◌+ℤ◌, ◌-ℤ◌, ◌*ℤ◌, get_or, set}
use Rattle.std.specs.Int.Signed.{quot_z, shr_z}

-- half(a) is a/2 toward zero
unfoldable pub half : ℤ → ℤ
half a = quot_z a (pos 2)

-- [a b s]: (a × b + 2^(s-1)) shifted right by s, toward minus infinity
unfoldable pub part : ℤ → ℤ → ℕ → ℤ
part a b s = shr_z (a *ℤ b +ℤ pos (2 ^ (s - 1))) (2 ^ s)

-- what a step takes from the place t that it reads: t itself, half(t), or [t b s]
pub data Of : Type 0 where
  whole : Of
  halved : Of
  times : ℕ → ℕ → Of

abbrev pub of : Of → ℤ → ℤ
of whole a = a
of halved a = half a
of (times b s) a = part a (pos b) s

-- plus i j f: t_i += f(t_j).   less i j f: t_i -= f(t_j).   from i j f: t_i = f(t_j) - t_i
pub data Step : Type 0 where
  plus : ℕ → ℕ → Of → Step
  less : ℕ → ℕ → Of → Step
  from : ℕ → ℕ → Of → Step

abbrev pub step : Step → List ℤ → List ℤ
step (plus i j f) v = set v i (get_or v i (pos 0) +ℤ of f (get_or v j (pos 0)))
step (less i j f) v = set v i (get_or v i (pos 0) -ℤ of f (get_or v j (pos 0)))
step (from i j f) v = set v i (of f (get_or v j (pos 0)) -ℤ get_or v i (pos 0))

abbrev pub run : List Step → List ℤ → List ℤ
run [] v = v
run (s ∷ ss) v = run ss (step s v)

-- The five groups of SCOPE, "The transform". Its h1, h4 and h6 are the half of a place that no step has changed since, so they need no place
-- of their own.
unfoldable pub steps1 : List Step
steps1 = from 1 0 whole ∷ less 0 1 halved ∷ plus 4 5 whole ∷ less 5 4 halved ∷ from 3 2 whole ∷ less 2 3 halved ∷ plus 6 7 whole ∷ from 7 6 halved ∷ []

unfoldable pub steps2 : List Step
steps2 = plus 0 6 halved ∷ from 6 0 whole ∷ from 2 4 halved ∷ from 4 2 whole ∷ []

unfoldable pub steps3 : List Step
steps3 =
    less 0 4 (times 13573 15) ∷ plus 4 0 (times 11585 14) ∷ less 0 4 (times 13573 15)
    ∷ less 6 2 (times 21895 15) ∷ plus 2 6 (times 15137 14) ∷ less 6 2 (times 21895 15) ∷ []

unfoldable pub steps4 : List Step
steps4 =
    plus 3 5 (times 19195 15) ∷ plus 5 3 (times 11585 14) ∷ less 3 5 (times 7489 13)
    ∷ from 7 5 halved ∷ less 5 7 whole ∷ from 3 1 halved ∷ less 1 3 whole ∷ []

unfoldable pub steps5 : List Step
steps5 =
    plus 7 1 (times 3227 15) ∷ less 1 7 (times 6393 15) ∷ plus 7 1 (times 3227 15)
    ∷ plus 5 3 (times 2485 13) ∷ less 3 5 (times 18205 15) ∷ plus 5 3 (times 2485 13) ∷ []

unfoldable pub steps : List Step
steps = steps1 ++ (steps2 ++ (steps3 ++ (steps4 ++ steps5)))

-- the step that undoes a step, and the steps that undo a list of steps
abbrev pub undo : Step → Step
undo (plus i j f) = less i j f
undo (less i j f) = plus i j f
undo (from i j f) = from i j f

abbrev pub undo_all : List Step → List Step
undo_all [] = []
undo_all (s ∷ ss) = undo_all ss ++ undo s ∷ []

-- A sum of doubles keeps its bits when the two change places. Assumes nothing.
use Rattle.std.proofs.Common.{◌≡◌, ℕ, ◌-◌, ◌*◌, Bool, true, false, cond, not, ◌&&◌, ltb, refl, ap, ◌∙◌, mul_comm, add_comm, arith, ltb-false, ltb-true}
use mathlib.Core.Bool.{and-true, and-false}
use lib.Ieee.{Float, nan, inf, fin, Format, up, down, round, sum, add}

-- of two sizes with unlike signs the larger gives its sign, and +0 is left where neither is
unlike_swap : (f : Format) (s : Bool) (a b c : ℕ)
    → cond (ltb a b) (round f (not s) (b - a) c) (round f (s && ltb b a) (a - b) c)
    ≡ cond (ltb b a) (round f s (a - b) c) (round f (not s && ltb a b) (b - a) c)
unlike_swap f s a b c = go (ltb a b) (ltb b a) refl refl
  where
    go : (x y : Bool) → ltb a b ≡ x → ltb b a ≡ y
        → cond x (round f (not s) (b - a) c) (round f (s && y) (a - b) c) ≡ cond y (round f s (a - b) c) (round f (not s && x) (b - a) c)
    go true true p q = absurd (omega (arith, ltb-true a b p, ltb-true b a q))
    go true false p q = rw and-true
    go false true p q = rw and-true
    go false false p q =
        let even : a - b ≡ b - a = omega (arith, ltb-false a b p, ltb-false b a q) in
        rw (and-false s, and-false (not s), even)

sum_swap : (f : Format) (s t : Bool) (a b c : ℕ) → sum f s a t b c ≡ sum f t b s a c
unfolding sum
sum_swap f true true a b c = rw (add_comm a b)
sum_swap f false false a b c = rw (add_comm a b)
sum_swap f true false a b c = unlike_swap f true a b c
sum_swap f false true a b c = unlike_swap f false a b c

pub add_swap : (f : Format) (x y : Float) → add f x y ≡ add f y x
unfolding add
add_swap f nan nan = refl
add_swap f nan (inf t) = refl
add_swap f nan (fin t n d) = refl
add_swap f (inf s) nan = refl
add_swap f (inf true) (inf true) = refl
add_swap f (inf true) (inf false) = refl
add_swap f (inf false) (inf true) = refl
add_swap f (inf false) (inf false) = refl
add_swap f (inf s) (fin t n d) = refl
add_swap f (fin s m e) nan = refl
add_swap f (fin s m e) (inf t) = refl
add_swap f (fin s m e) (fin t n d) =
    sum_swap f s t (m * up e * down d) (n * up d * down e) (down e * down d)
    ∙ ap (λ (c : ℕ). sum f t (n * up d * down e) s (m * up e * down d) c) (mul_comm (down e) (down d))

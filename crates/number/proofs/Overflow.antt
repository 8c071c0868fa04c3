-- A finite sum has finite terms, a finite product finite factors, and what a finite number divides into a finite quotient is finite: what
-- overflows on the way is not lost. Assumes nothing.
use Rattle.std.proofs.Common.{◌≡◌, Bool, true, false, cond, eqb, sym, refl, true≢false}
use lib.Ieee.{Float, nan, inf, fin, Format, add, mul, div, unlike}
use lib.Ieee.Scale.{finite}

pub never : false ≡ true → ⊥
never e = true≢false (sym e)

-- an infinity times a number is infinite, or nan for a zero
inf_times : (b s : Bool) → finite (cond b nan (inf s)) ≡ true → ⊥
inf_times true s e = never e
inf_times false s e = never e

pub add_finite : (f : Format) (x y : Float) → finite (add f x y) ≡ true → (finite x ≡ true) × (finite y ≡ true)
unfolding add
add_finite f nan y e = absurd (never e)
add_finite f (inf s) nan e = absurd (never e)
add_finite f (inf true) (inf true) e = absurd (never e)
add_finite f (inf true) (inf false) e = absurd (never e)
add_finite f (inf false) (inf true) e = absurd (never e)
add_finite f (inf false) (inf false) e = absurd (never e)
add_finite f (inf s) (fin t n d) e = absurd (never e)
add_finite f (fin s m k) nan e = absurd (never e)
add_finite f (fin s m k) (inf t) e = absurd (never e)
add_finite f (fin s m k) (fin t n d) e = (refl, refl)

pub mul_finite : (f : Format) (x y : Float) → finite (mul f x y) ≡ true → (finite x ≡ true) × (finite y ≡ true)
unfolding mul
mul_finite f nan y e = absurd (never e)
mul_finite f (inf s) nan e = absurd (never e)
mul_finite f (inf s) (inf t) e = absurd (never e)
mul_finite f (inf s) (fin t n d) e = absurd (inf_times (eqb n 0) (unlike s t) e)
mul_finite f (fin s m k) nan e = absurd (never e)
mul_finite f (fin s m k) (inf t) e = absurd (inf_times (eqb m 0) (unlike s t) e)
mul_finite f (fin s m k) (fin t n d) e = (refl, refl)

-- not by an infinity, which makes 0 of every finite number
pub div_finite : (f : Format) (x y : Float) → finite y ≡ true → finite (div f x y) ≡ true → finite x ≡ true
unfolding div
div_finite f x nan p e = absurd (never p)
div_finite f x (inf t) p e = absurd (never p)
div_finite f nan (fin t n d) p e = absurd (never e)
div_finite f (inf s) (fin t n d) p e = absurd (never e)
div_finite f (fin s m k) (fin t n d) p e = refl

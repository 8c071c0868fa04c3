-- `scaled` gives [a b s]. Assumes nothing.
use mathlib.Core.Path.{◌≡◌}
use native.Mathlib.Omega.{arith}
use Prim.Native.Nat.{◌≤◌, ◌^◌, ◌-◌}
use lib.Dec.{ltb→lt, leb→le}
use lib.IntN.{pos, ◌+ℤ◌, ◌*ℤ◌, nat_abs}
use mir.Facts.{to_z-of_z}
use mir.Syntax.{w32}
use mir.Val.{SFits}
use Rattle.lifting.specs.Steps.{part}
use Rattle.lifting.proofs.Size.{fits, size_add, size_mul, answer, size_part, half_of}
use Rattle.lifting.proofs.lift.scaled.Goals as goal

pub overflow_mul-result : goal.overflow_mul-result
overflow_mul-result c =
    let prod : SFits w32 (c.args.a *ℤ c.args.b) = fits _ (omega (arith, size_mul c.args.a c.args.b)) in
    rw (to_z-of_z c.ranges.a, to_z-of_z c.ranges.b) prod

pub overflow_add-result : goal.overflow_add-result
overflow_add-result c =
    let prod : SFits w32 (c.args.a *ℤ c.args.b) = fits _ (omega (arith, size_mul c.args.a c.args.b)) in
    let sum : SFits w32 (c.args.a *ℤ c.args.b +ℤ c.args.h) = fits _ (omega (arith, size_mul c.args.a c.args.b, size_add (c.args.a *ℤ c.args.b) c.args.h)) in
    rw (to_z-of_z c.ranges.a, to_z-of_z c.ranges.b, to_z-of_z prod, to_z-of_z c.ranges.h) sum

pub overflow_cast-result : goal.overflow_cast-result
overflow_cast-result c =
    let high : c.args.s ≤ 16 = leb→le c.args.s 16 c.requires.factor.1 in
    fits (pos c.args.s) (omega (arith, high))

pub overflow_shr-result : goal.overflow_shr-result
overflow_shr-result c =
    let high : c.args.s ≤ 16 = leb→le c.args.s 16 c.requires.factor.1 in
    omega (arith, high)

pub returns : goal.returns
unfolding part
returns c =
    let h-is : c.args.h ≡ pos (2 ^ (c.args.s - 1)) = half_of c.args.h c.args.s c.requires.factor.3 in
    let prod : SFits w32 (c.args.a *ℤ c.args.b) = fits _ (omega (arith, size_mul c.args.a c.args.b)) in
    let sum : SFits w32 (c.args.a *ℤ c.args.b +ℤ c.args.h) = fits _ (omega (arith, size_mul c.args.a c.args.b, size_add (c.args.a *ℤ c.args.b) c.args.h)) in
    let size : nat_abs (part c.args.a c.args.b c.args.s) ≤ nat_abs c.args.a = size_part c.args.a c.args.b c.args.s (ltb→lt 0 c.args.s c.requires.factor.0) (leb→le (nat_abs c.args.b) (2 ^ c.args.s) c.requires.factor.2) in
    rw (to_z-of_z c.ranges.a, to_z-of_z c.ranges.b, to_z-of_z prod, to_z-of_z c.ranges.h, to_z-of_z sum, h-is)
    (answer (part c.args.a c.args.b c.args.s) _ size (omega (arith, size)))

-- `scaled_wide` gives [a b s]: the product is worked out in 64 bits. Assumes nothing.
use mathlib.Core.Path.{◌≡◌}
use native.Mathlib.Omega.{arith}
use Prim.Native.Nat.{◌≤◌, ◌^◌, ◌-◌}
use lib.Dec.{ltb→lt, leb→le}
use lib.IntN.{pos, ◌+ℤ◌, ◌*ℤ◌, nat_abs}
use mir.Facts.{to_z-of_z}
use mir.Syntax.{w64}
use mir.Val.{SFits}
use Rattle.lifting.specs.Steps.{part}
use Rattle.lifting.proofs.Size.{fits, fits64, size_fits, answer, size_part, product_fits, rounded_fits, half_of}
use Rattle.lifting.proofs.lift.scaled_wide.Goals as goal

pub overflow_cast-result : goal.overflow_cast-result
overflow_cast-result c =
    let wide-a : SFits w64 c.args.a = fits64 c.args.a (omega (arith, size_fits c.args.a c.ranges.a)) in
    rw (to_z-of_z c.ranges.a) wide-a

pub overflow_cast-result-2 : goal.overflow_cast-result-2
overflow_cast-result-2 c =
    let wide-b : SFits w64 c.args.b = fits64 c.args.b (omega (arith, size_fits c.args.b c.ranges.b)) in
    rw (to_z-of_z c.ranges.b) wide-b

pub overflow_mul-result : goal.overflow_mul-result
overflow_mul-result c =
    let high : c.args.s ≤ 16 = leb→le c.args.s 16 c.requires.factor.1 in
    let factor : nat_abs c.args.b ≤ 2 ^ c.args.s = leb→le (nat_abs c.args.b) (2 ^ c.args.s) c.requires.factor.2 in
    let wide-a : SFits w64 c.args.a = fits64 c.args.a (omega (arith, size_fits c.args.a c.ranges.a)) in
    let wide-b : SFits w64 c.args.b = fits64 c.args.b (omega (arith, size_fits c.args.b c.ranges.b)) in
    let prod : SFits w64 (c.args.a *ℤ c.args.b) = product_fits c.args.a c.args.b c.args.s c.requires.a_bound high factor in
    rw (to_z-of_z c.ranges.a, to_z-of_z wide-a, to_z-of_z c.ranges.b, to_z-of_z wide-b) prod

pub overflow_cast-result-3 : goal.overflow_cast-result-3
overflow_cast-result-3 c =
    let wide-h : SFits w64 c.args.h = fits64 c.args.h (omega (arith, size_fits c.args.h c.ranges.h)) in
    rw (to_z-of_z c.ranges.h) wide-h

pub overflow_add-result : goal.overflow_add-result
overflow_add-result c =
    let high : c.args.s ≤ 16 = leb→le c.args.s 16 c.requires.factor.1 in
    let factor : nat_abs c.args.b ≤ 2 ^ c.args.s = leb→le (nat_abs c.args.b) (2 ^ c.args.s) c.requires.factor.2 in
    let h-is : c.args.h ≡ pos (2 ^ (c.args.s - 1)) = half_of c.args.h c.args.s c.requires.factor.3 in
    let wide-a : SFits w64 c.args.a = fits64 c.args.a (omega (arith, size_fits c.args.a c.ranges.a)) in
    let wide-b : SFits w64 c.args.b = fits64 c.args.b (omega (arith, size_fits c.args.b c.ranges.b)) in
    let wide-h : SFits w64 c.args.h = fits64 c.args.h (omega (arith, size_fits c.args.h c.ranges.h)) in
    let prod : SFits w64 (c.args.a *ℤ c.args.b) = product_fits c.args.a c.args.b c.args.s c.requires.a_bound high factor in
    let sum : SFits w64 (c.args.a *ℤ c.args.b +ℤ c.args.h) = rw h-is (rounded_fits c.args.a c.args.b c.args.s c.requires.a_bound high factor) in
    rw
    (to_z-of_z c.ranges.a, to_z-of_z wide-a, to_z-of_z c.ranges.b, to_z-of_z wide-b, to_z-of_z prod, to_z-of_z c.ranges.h, to_z-of_z wide-h)
    sum

pub overflow_cast-result-4 : goal.overflow_cast-result-4
overflow_cast-result-4 c =
    let high : c.args.s ≤ 16 = leb→le c.args.s 16 c.requires.factor.1 in
    fits64 (pos c.args.s) (omega (arith, high))

pub overflow_shr-result : goal.overflow_shr-result
overflow_shr-result c =
    let high : c.args.s ≤ 16 = leb→le c.args.s 16 c.requires.factor.1 in
    omega (arith, high)

pub overflow_cast-result-5 : goal.overflow_cast-result-5
unfolding part
overflow_cast-result-5 c =
    let high : c.args.s ≤ 16 = leb→le c.args.s 16 c.requires.factor.1 in
    let factor : nat_abs c.args.b ≤ 2 ^ c.args.s = leb→le (nat_abs c.args.b) (2 ^ c.args.s) c.requires.factor.2 in
    let h-is : c.args.h ≡ pos (2 ^ (c.args.s - 1)) = half_of c.args.h c.args.s c.requires.factor.3 in
    let wide-a : SFits w64 c.args.a = fits64 c.args.a (omega (arith, size_fits c.args.a c.ranges.a)) in
    let wide-b : SFits w64 c.args.b = fits64 c.args.b (omega (arith, size_fits c.args.b c.ranges.b)) in
    let wide-h : SFits w64 c.args.h = fits64 c.args.h (omega (arith, size_fits c.args.h c.ranges.h)) in
    let prod : SFits w64 (c.args.a *ℤ c.args.b) = product_fits c.args.a c.args.b c.args.s c.requires.a_bound high factor in
    let sum : SFits w64 (c.args.a *ℤ c.args.b +ℤ c.args.h) = rw h-is (rounded_fits c.args.a c.args.b c.args.s c.requires.a_bound high factor) in
    let size : nat_abs (part c.args.a c.args.b c.args.s) ≤ nat_abs c.args.a = size_part c.args.a c.args.b c.args.s (ltb→lt 0 c.args.s c.requires.factor.0) factor in
    let wide-part : SFits w64 (part c.args.a c.args.b c.args.s) = fits64 _ (omega (arith, size)) in
    rw (
      to_z-of_z c.ranges.a,
      to_z-of_z wide-a,
      to_z-of_z c.ranges.b,
      to_z-of_z wide-b,
      to_z-of_z prod,
      to_z-of_z c.ranges.h,
      to_z-of_z wide-h,
      to_z-of_z sum,
      h-is,
      to_z-of_z wide-part,
    )
    (fits (part c.args.a c.args.b c.args.s) (omega (arith, size)))

pub returns : goal.returns
unfolding part
returns c =
    let high : c.args.s ≤ 16 = leb→le c.args.s 16 c.requires.factor.1 in
    let factor : nat_abs c.args.b ≤ 2 ^ c.args.s = leb→le (nat_abs c.args.b) (2 ^ c.args.s) c.requires.factor.2 in
    let h-is : c.args.h ≡ pos (2 ^ (c.args.s - 1)) = half_of c.args.h c.args.s c.requires.factor.3 in
    let wide-a : SFits w64 c.args.a = fits64 c.args.a (omega (arith, size_fits c.args.a c.ranges.a)) in
    let wide-b : SFits w64 c.args.b = fits64 c.args.b (omega (arith, size_fits c.args.b c.ranges.b)) in
    let wide-h : SFits w64 c.args.h = fits64 c.args.h (omega (arith, size_fits c.args.h c.ranges.h)) in
    let prod : SFits w64 (c.args.a *ℤ c.args.b) = product_fits c.args.a c.args.b c.args.s c.requires.a_bound high factor in
    let sum : SFits w64 (c.args.a *ℤ c.args.b +ℤ c.args.h) = rw h-is (rounded_fits c.args.a c.args.b c.args.s c.requires.a_bound high factor) in
    let size : nat_abs (part c.args.a c.args.b c.args.s) ≤ nat_abs c.args.a = size_part c.args.a c.args.b c.args.s (ltb→lt 0 c.args.s c.requires.factor.0) factor in
    let wide-part : SFits w64 (part c.args.a c.args.b c.args.s) = fits64 _ (omega (arith, size)) in
    rw (
      to_z-of_z c.ranges.a,
      to_z-of_z wide-a,
      to_z-of_z c.ranges.b,
      to_z-of_z wide-b,
      to_z-of_z prod,
      to_z-of_z c.ranges.h,
      to_z-of_z wide-h,
      to_z-of_z sum,
      h-is,
      to_z-of_z wide-part,
    )
    (answer (part c.args.a c.args.b c.args.s) _ size (omega (arith, size)))

-- `number::root` meets its contract. Assumes nothing.
use Rattle.std.specs.Prelude.{Ok, Err}
use Rattle.std.proofs.Common.{◌≡◌, ℕ, ◌+◌, ◌-◌, ◌*◌, ◌/◌, ◌%◌, ◌^◌, ◌<◌, true, false, not, T, sym, refl, ap, ◌∙◌, subst, arith}
use borrow.Author.Tests.{not-true, not-false}
use lib.Count.{count_leading_zeros}
use lib.Ieee.{Float, nan, inf, fin, binary64, fits, is_nan, to_bits, of_bits, units}
use lib.Ieee.Bits.{of_bits-to_bits}
use lib.Ieee.Scale as Scale
use Rattle.refusal.specs.declared.Refusal.TheVariants as no
use Rattle.number.specs.Root.{nearest_root, root_of}
use Rattle.number.proofs.Doubles.{Lifted, lifted, small_root, normal_root, read_refused}
use Rattle.number.proofs.root.Goals as goal

not_finite : (x : Float) → Scale.finite x ≡ false → Err no.Value ≡ root_of x
unfolding root_of
not_finite nan e = refl
not_finite (inf s) e = refl
not_finite (fin s m k) e = let z : ◌≡◌ {A = ℕ} 0 1 = cc in absurd (omega arith)

a_number : (x : Float) → Scale.finite x ≡ true → T (not (is_nan x))
unfolding is_nan
a_number nan e = let z : ◌≡◌ {A = ℕ} 0 1 = cc in absurd (omega arith)
a_number (inf s) e = tt
a_number (fin s m k) e = tt

zero-root : root_of (of_bits binary64 0) ≡ Ok (of_bits binary64 0)
unfolding root_of of_bits
zero-root = refl

-- a number is what its bits read back as
by_bits : (x : Float) → T (fits binary64 x) → (b : ℕ) → to_bits binary64 x ≡ b → root_of (of_bits binary64 b) ≡ root_of x
by_bits x held b e = ap root_of (ap (of_bits binary64) (sym e) ∙ of_bits-to_bits binary64 x held)

-- bits that have no leading digit are lifted until there is one
below_leading : (bits : ℕ) → 0 < bits → bits < 2 ^ 52 → Lifted (bits % 2 ^ 52)
below_leading bits p h = lifted (bits % 2 ^ 52) (omega arith) (omega arith)

pub returns-then-not-finite : goal.returns-then-not-finite
returns-then-not-finite c = not_finite _ (sym c.finite.ensures ∙ not-true _ c.if-not-finite.true-raw)

pub float_to_bits-bits : goal.float_to_bits-bits
float_to_bits-bits c = a_number _ (sym c.finite.ensures ∙ not-false _ c.if-not-finite.false-raw)

pub returns-then-bits-eq0 : goal.returns-then-bits-eq0
returns-then-bits-eq0 c =
    sym zero-root ∙ by_bits c.args.x (subst T (sym c.well_formed.0.1) tt) 0 c.if-bits-eq0.true

pub scaled_root-requires : goal.scaled_root-requires
scaled_root-requires c =
    let lift = below_leading (to_bits binary64 c.args.x) (omega arith) (omega arith) in
    rw lift.exact (lift.from, lift.upto, omega (arith, lift.zeros))

pub returns-then-field-eq0 : goal.returns-then-field-eq0
returns-then-field-eq0 c =
    let lift = below_leading (to_bits binary64 c.args.x) (omega arith) (omega arith) in
    let d = to_bits binary64 c.args.x % 2 ^ 52 in
    let u = count_leading_zeros 64 d - 11 in
    ap Ok (c.scaled_root.ensures ∙ ap (λ (x : ℕ). units binary64 false (nearest_root 53 (x * 2 ^ (52 + (1022 - u) % 2))) ((1022 - u) / 2)) lift.exact)
    ∙ sym (small_root d (omega arith) (omega arith))
    ∙ by_bits c.args.x (subst T (sym c.well_formed.0.1) tt) d (omega arith)

pub returns-then-field-lt2047 : goal.returns-then-field-lt2047
returns-then-field-lt2047 c =
    let bits : ℕ = to_bits binary64 c.args.x in
    let k = bits / 2 ^ 52 - 1 in
    let t = bits % 2 ^ 52 in
    let w : bits / 2 ^ 52 + 1021 ≡ k + 1022 = omega arith in
    ap Ok (c.scaled_root-then-field-lt2047.ensures ∙ ap (λ (x : ℕ). units binary64 false (nearest_root 53 ((2 ^ 52 + t) * 2 ^ (52 + x % 2))) (x / 2)) w)
    ∙ sym (normal_root k t (omega arith) (omega arith))
    ∙ by_bits c.args.x (subst T (sym c.well_formed.0.1) tt) ((k + 1) * 2 ^ 52 + t) (omega arith)

pub returns : goal.returns
returns c =
    sym (read_refused _ (omega arith)) ∙ by_bits c.args.x (subst T (sym c.well_formed.0.1) tt) _ refl

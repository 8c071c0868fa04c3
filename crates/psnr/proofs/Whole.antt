-- Which doubles are whole numbers from 0 to `exact_limit`: one is whole exactly where it comes back, bit for bit, from the whole number that is
-- left when its fraction is cut off. Assumes nothing.
use Rattle.std.proofs.Common.{◌≡◌, ℕ, ◌+◌, ◌*◌, ◌/◌, ◌^◌, ◌≤◌, Bool, true, false, not, T, eqb, pos, sym, refl, ap, ◌∙◌, subst, lt_of_le_of_lt, arith, lit<, lit≤, le→leb, lt→ltb, leb→le, ltb-false, eq-eqb, ne_eqb}
use mathlib.Core.Bool.{and-false}
use native.Mathlib.Nat.{div-le_of_le-mul}
use borrow.Author.Tests.{not-false}
use lib.Ieee.{Float, nan, inf, fin, binary64, up, down, lt, le, is_nan, of_int, to_unsigned, in_unsigned, whole, in_float, fits, to_bits, of_bits}
use lib.Ieee.Back.{round_whole, unsigned_back, Float-back_unsigned}
use lib.Ieee.Bits.{is_true, of_bits-to_bits}
use lib.Ieee.Exact.{HasValue}
use lib.Ieee.Fits.{down_pos, of_int-fits}
use lib.Ieee.Order.{le_of_values}
use Rattle.number.specs.Limits.{exact_limit}
use Rattle.number.specs.Steps.{double}
use Rattle.number.proofs.Order.{or_le}
use Rattle.psnr.specs.Record.{is_whole, whole_of}

-- the limit and -1
abbrev top : Float
top = fin false 1 (pos 53)

abbrev minus_one : Float
minus_one = fin true 1 (pos 0)

never : {b : Bool} → b ≡ false → b ≡ true → ⊥
never p q = let z : ◌≡◌ {A = ℕ} 0 1 = cc in omega arith

holds : {b : Bool} → b ≡ true → T b
holds e = subst T (sym e) tt

-- ---- what a whole one is
pub whole_is : (e : Float) → T (fits binary64 e) → is_whole e ≡ true → (double (whole_of e) ≡ e) × (whole_of e ≤ exact_limit)
unfolding in_float
whole_is e f w = let b = Float-back_unsigned binary64 64 e f (holds w) in (b.1, leb→le (whole_of e) exact_limit b.0)

pub whole_back : (n : ℕ) → n ≤ exact_limit → (is_whole (double n) ≡ true) × (whole_of (double n) ≡ n)
unfolding in_float
whole_back n l =
    let b = unsigned_back binary64 64 n (le→leb n exact_limit l) (lt_of_le_of_lt l (lit< tt)) in (is_true _ b.0, b.1)

-- ---- the two tests of the range
pub low_end : (e : Float) → lt minus_one e ≡ false → is_whole e ≡ false
unfolding lt in_unsigned
low_end nan h = refl
low_end (inf s) h = refl
low_end (fin true m k) h = and-false (whole binary64 (fin true m k))
low_end (fin false m k) h = absurd (omega (arith, ltb-false 0 (1 * 1 * down k + m * up k * 1) h, down_pos k))

small_le : (n : ℕ) → n ≤ exact_limit → T (le (double n) top)
unfolding of_int
small_le n l =
    le_of_values (double n) top n 1 exact_limit 1 (lit< tt) (lit< tt) (round_whole binary64 false n l) (refl, refl) (omega arith)

pub high_end : (e : Float) → T (fits binary64 e) → le e top ≡ false → is_whole e ≡ false
high_end e f h = go (is_whole e) refl
  where
    go : (b : Bool) → is_whole e ≡ b → is_whole e ≡ false
    go false w = w
    go true w = let i = whole_is e f w in absurd (never h (is_true _ (subst (λ (x : Float). T (le x top)) i.0 (small_le (whole_of e) i.1))))

-- ---- what the tests say where they pass
pub above : (e : Float) → not (lt minus_one e) ≡ false → T (lt minus_one e)
above e h = holds (not-false (lt minus_one e) h)

pub in_range : (e : Float) → le e top ≡ true → T (lt e (fin false 1 (pos 64)))
unfolding le lt
in_range nan h = absurd (never refl h)
in_range (inf true) h = tt
in_range (inf false) h = absurd (never refl h)
in_range (fin true m k) h = lt→ltb 0 (m * up k * 1 + 1 * 2 ^ 64 * down k) (omega (arith, down_pos k))
in_range (fin false m k) h =
    let l = or_le (m * up k * 1) (1 * exact_limit * down k) _ (holds h) in lt→ltb (m * up k * 1) (1 * 2 ^ 64 * down k) (omega (arith, down_pos k))

pub cut_small : (e : Float) → le e top ≡ true → to_unsigned 64 e ≤ exact_limit
unfolding le lt to_unsigned
cut_small nan h = lit≤ tt
cut_small (inf true) h = lit≤ tt
cut_small (inf false) h = absurd (never refl h)
cut_small (fin true m k) h = lit≤ tt
cut_small (fin false m k) h =
    let l = or_le (m * up k * 1) (1 * exact_limit * down k) _ (holds h) in
    let q : m * up k / down k ≤ exact_limit = div-le_of_le-mul (down k) (omega arith) in
    omega arith

pub a_number : (e : Float) → le e top ≡ true → T (not (is_nan e))
unfolding le lt is_nan
a_number nan h = absurd (never refl h)
a_number (inf s) h = tt
a_number (fin s m k) h = tt

-- ---- the test of the bits
valued : (x : Float) (n : ℕ) → HasValue x false n 1 → T (not (is_nan x))
unfolding is_nan
valued nan n h = absurd h
valued (inf s) n h = tt
valued (fin s m k) n h = tt

pub exact_number : (n : ℕ) → n ≤ exact_limit → T (not (is_nan (double n)))
unfolding of_int
exact_number n l = valued (double n) n (round_whole binary64 false n l)

pub comes_back : (e : Float) → T (fits binary64 e) → whole_of e ≤ exact_limit
    → eqb (to_bits binary64 e) (to_bits binary64 (double (whole_of e))) ≡ is_whole e
comes_back e f l = go (is_whole e) refl
  where
    back : Float
    back = double (whole_of e)

    same : to_bits binary64 e ≡ to_bits binary64 back → back ≡ e
    same h =
        sym (of_bits-to_bits binary64 back (of_int-fits binary64 (pos (whole_of e)))) ∙ ap (of_bits binary64) (sym h) ∙ of_bits-to_bits binary64 e f

    go : (b : Bool) → is_whole e ≡ b → eqb (to_bits binary64 e) (to_bits binary64 back) ≡ is_whole e
    go true w = eq-eqb _ _ (sym (ap (to_bits binary64) (whole_is e f w).0)) ∙ sym w
    go false w =
        ne_eqb _ _ (λ (h : to_bits binary64 e ≡ to_bits binary64 back). never (ap is_whole (same h) ∙ w) (whole_back (whole_of e) l).0) ∙ sym w

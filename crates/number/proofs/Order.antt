-- Doubles in order: which lie from -0 to a whole number, and how a fraction lies between whole numbers after rounding too. Assumes nothing.
use Rattle.std.proofs.Common.{◌≡◌, ℕ, ◌*◌, ◌^◌, ◌<◌, ◌≤◌, Bool, true, false, ◌&&◌, ◌||◌, T, eqb, ltb, pos, sym, refl, ap, ◌∙◌, subst, true≢false, zero-mul, mul-one, arith, eqb→eq, ltb→lt, pow_pos}
use native.Mathlib.Nat.{eq_of_mul-eq-mul_right}
use lib.Ieee.{Float, nan, inf, fin, binary64, up, down, round, le, of_bits}
use lib.Ieee.Fits.{and_l}
use lib.Ieee.Exact.{HasValue}
use lib.Ieee.Order.{round_mono}
use Rattle.number.specs.Literals.{zero_d}

-- x is a number from -0 to k
abbrev pub Within : ℕ → Float → Type 0
Within k nan = ⊥
Within k (inf s) = ⊥
Within k (fin s m e) = (s ≡ true → m * up e ≡ 0) × (m * up e ≤ k * down e)

-- ---- by the comparisons that the code makes

pub or_le : (a b : ℕ) (r : Bool) → T (ltb a b || (eqb a b && r)) → a ≤ b
or_le a b r t = go (ltb a b) refl t
  where
    go : (x : Bool) → ltb a b ≡ x → T (x || (eqb a b && r)) → a ≤ b
    go true p h = omega (arith, ltb→lt a b (subst T (sym p) tt))
    go false p h = omega (arith, eqb→eq a b (and_l (eqb a b) r h))

pub within : (n j : ℕ) (x : Float) → T (le zero_d x) → T (le x (fin false n (pos j))) → Within (n * 2 ^ j) x
unfolding le of_bits
within n j nan p q = p
within n j (inf true) p q = p
within n j (inf false) p q = q
within n j (fin true m e) p q =
    let zero : 0 * 1 * down e ≡ m * up e * 1 = eqb→eq (0 * 1 * down e) (m * up e * 1) (and_l (eqb (0 * 1 * down e) (m * up e * 1)) (eqb (0 * 1 * down e) 0) p) in
    ((λ t. omega arith), omega arith)
within n j (fin false m e) p q =
    ((λ t. absurd (true≢false (sym t))), subst (λ (x : ℕ). x ≤ n * 2 ^ j * down e) (mul-one (m * up e)) (or_le (m * up e * 1) (n * 2 ^ j * down e) true q))

-- a zero of either sign
pub zero_within : (k : ℕ) (x : Float) (a c : ℕ) → 0 < c → a ≡ 0 → HasValue x true a c → Within k x
zero_within k nan a c C z h = h
zero_within k (inf s) a c C z h = h
zero_within k (fin s m e) a c C z h =
    let none : m * up e ≡ 0 = eq_of_mul-eq-mul_right c C (m * up e) 0 (h.1 ∙ ap (λ (x : ℕ). x * down e) z ∙ zero-mul (down e) ∙ sym (zero-mul c)) in
    ((λ t. none), omega (arith, none))

-- ---- a fraction a / b of at least l, and of at most h, after rounding too

module _ (a b : ℕ) (B : 0 < b) where
  pub from : (l : ℕ) → l * b ≤ a → T (le (round binary64 false l 1) (round binary64 false a b))
  from l h = round_mono binary64 l 1 a b (pow_pos 0) B (subst (λ (x : ℕ). l * b ≤ x) (sym (mul-one a)) h)

  pub upto : (h : ℕ) → a ≤ h * b → T (le (round binary64 false a b) (round binary64 false h 1))
  upto h l = round_mono binary64 a b h 1 B (pow_pos 0) (subst (λ (x : ℕ). x ≤ h * b) (sym (mul-one a)) l)

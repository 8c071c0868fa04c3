-- How large the whole numbers of a step are: the laws that let `omega` follow sizes (`nat_abs`). Assumes nothing.
use mathlib.Core.Path.{◌≡◌, refl, sym, ap, subst}
use mathlib.Core.Bool.{Bool, true, false, not, cond}
use mathlib.Core.List.{List, [], ◌∷◌}
use Prim.Native.Nat.{ℕ, zero, suc, ◌+◌, ◌-◌, ◌*◌, ◌/◌, ◌^◌, ◌≤◌, ◌<◌}
use native.Mathlib.Nat.{le_refl, le_trans, lt_of_le_of_lt, div-lt_iff_lt-mul, mul-le-mul_left, le_of_suc-le-suc, suc-mul, le_of_eq, pow-suc}
use native.Mathlib.Numerals.{sub-one}
use native.Mathlib.Omega.{arith}
use lib.Dec.{T, ltb, ltb→lt, nltb→le, eqb→eq}
use lib.IntN.{ℤ, pos, negsuc, neg_ℤ, nat_abs, sub_ℕ, ◌+ℤ◌, ◌-ℤ◌, ◌*ℤ◌}
use lib.Signed.{mag, shr_z}
use lib.Pow.{pow_pos, pow_mono}
use borrow.Author.Rules.{sfits_of}
use mir.Syntax.{w32, w64}
use mir.Val.{SFits, sel}
use mir.Facts.{to_z-of_z}
use Rattle.lifting.specs.Steps.{half, part}
use Rattle.lifting.specs.Inner.Operation.{read32, Is, HalfOf}
use Rattle.lifting.specs.Inner.Within.{Within}

pub cond_ind : (c : Bool) (x y : ℤ) (P : ℤ → Type 0) → (T c → P x) → (T (not c) → P y) → P (cond c x y)
cond_ind true x y P f g = f tt
cond_ind false x y P f g = g tt

pub size_neg : (z : ℤ) → nat_abs (neg_ℤ z) ≡ nat_abs z
size_neg (pos zero) = refl
size_neg (pos (suc n)) = refl
size_neg (negsuc n) = refl

size_sub : (a b : ℕ) → nat_abs (sub_ℕ a b) ≤ a + b
size_sub a b = cond_ind (ltb a b) (negsuc (b - suc a)) (pos (a - b)) (λ z. nat_abs z ≤ a + b)
    (λ t. let h : a < b = ltb→lt a b t in omega arith) (λ t. omega arith)

pub size_add : (a b : ℤ) → nat_abs (a +ℤ b) ≤ nat_abs a + nat_abs b
size_add (pos a) (pos b) = le_refl (a + b)
size_add (pos a) (negsuc b) = size_sub a (suc b)
size_add (negsuc a) (pos b) = let h : nat_abs (sub_ℕ b (suc a)) ≤ b + suc a = size_sub b (suc a) in omega arith
size_add (negsuc a) (negsuc b) = omega arith

pub size_diff : (a b : ℤ) → nat_abs (a -ℤ b) ≤ nat_abs a + nat_abs b
size_diff a b = rw size_neg at (size_add a (neg_ℤ b))

pub size_half : (a : ℤ) → nat_abs (half a) ≡ nat_abs a / 2
unfolding half
size_half (pos n) = refl
size_half (negsuc n) = size_neg (pos (suc n / 2))

mag_size : (z : ℤ) → mag z ≤ nat_abs z
mag_size (pos n) = le_refl n
mag_size (negsuc n) = omega arith

pub fits : (z : ℤ) → nat_abs z < 2 ^ 31 → SFits w32 z
fits z h = record { sfits = lt_of_le_of_lt (mag_size z) h }

pub size_fits : (z : ℤ) → SFits w32 z → nat_abs z ≤ 2 ^ 31
size_fits (pos n) f = let h : n < 2 ^ 31 = f.sfits in omega arith
size_fits (negsuc n) f = f.sfits

-- the answer of an operation whose exact result z has a size below 2^63
pub answer : (z : ℤ) (n : ℕ) → nat_abs z ≤ n → nat_abs z < 2 ^ 31 → Is z n (read32 z)
answer z n h l = subst (λ (x : ℤ). Is z n x) (sym e) (record { is = e; size = subst (λ (x : ℤ). nat_abs x ≤ n) (sym e) h })
  where
    e : read32 z ≡ z
    e = to_z-of_z (fits z l)

pub size_mul : (a b : ℤ) → nat_abs (a *ℤ b) ≡ nat_abs a * nat_abs b
size_mul (pos a) (pos b) = refl
size_mul (pos a) (negsuc b) = size_neg (pos (a * suc b))
size_mul (negsuc a) (pos b) = size_neg (pos (suc a * b))
size_mul (negsuc a) (negsuc b) = refl

below : (x A m : ℕ) → 0 < m → x < A * m → x / m < A
below x A m p h = (div-lt_iff_lt-mul p).1 h

-- a number of size at most A * m, half of m added and divided by m, rounded down: of size at most A
size_shr : (z : ℤ) (A m k : ℕ) → 0 < m → k + k ≡ m → nat_abs z ≤ A * m → nat_abs (shr_z (z +ℤ pos k) m) ≤ A
size_shr (pos n) A m k p e h = le_of_suc-le-suc (below (n + k) (suc A) m p (omega (arith, suc-mul A m)))
size_shr (negsuc n) A m k p e h = cond_ind (ltb k (suc n)) (negsuc (suc n - suc k)) (pos (k - suc n)) (λ z. nat_abs (shr_z z m) ≤ A)
    (λ t. below (suc n - suc k) A m p (omega arith))
    (λ t. le_of_suc-le-suc (below (k - suc n) (suc A) m p (omega (arith, suc-mul A m))))

double : (s : ℕ) → 0 < s → 2 ^ (s - 1) + 2 ^ (s - 1) ≡ 2 ^ s
double zero h = omega arith
double (suc n) h = rw (sub-one (suc n)) (omega (arith, pow-suc 2 n))

-- [a b s] is at most a in size, where b is at most 2^s
pub size_part : (a b : ℤ) (s : ℕ) → 0 < s → nat_abs b ≤ 2 ^ s → nat_abs (part a b s) ≤ nat_abs a
unfolding part
size_part a b s p h =
    size_shr (a *ℤ b) (nat_abs a) (2 ^ s) (2 ^ (s - 1)) (pow_pos s) (double s p)
    (le_trans (le_of_eq (size_mul a b)) (mul-le-mul_left (nat_abs a) h))

-- a number of a 32-bit place, and the two sums on the way to [a b s], fit 64 bits
pub fits64 : (z : ℤ) → nat_abs z < 2 ^ 63 → SFits w64 z
fits64 z h = record { sfits = lt_of_le_of_lt (mag_size z) h }

module _ (a b : ℤ) (s : ℕ) (ha : nat_abs a < 2 ^ 31) (hs : s ≤ 16) (hb : nat_abs b ≤ 2 ^ s) where
  size_product : nat_abs (a *ℤ b) ≤ 2 ^ 47
  size_product =
      let p : nat_abs a * nat_abs b ≤ nat_abs a * 2 ^ 16 = mul-le-mul_left (nat_abs a) (le_trans hb (pow_mono hs)) in
      rw size_mul (omega arith)

  pub product_fits : SFits w64 (a *ℤ b)
  product_fits = fits64 (a *ℤ b) (omega (arith, size_product))

  pub rounded_fits : SFits w64 (a *ℤ b +ℤ pos (2 ^ (s - 1)))
  rounded_fits =
      let l : s - 1 ≤ 15 = omega arith in
      let q : 2 ^ (s - 1) ≤ 2 ^ 15 = pow_mono l in
      fits64 (a *ℤ b +ℤ pos (2 ^ (s - 1))) (omega (arith, size_product, size_add (a *ℤ b) (pos (2 ^ (s - 1)))))

-- what is read back is never larger
pub kept : (z : ℤ) → nat_abs (read32 z) ≤ nat_abs z
kept (pos n) = pick (ltb n (2 ^ 31)) (λ t. omega arith) (λ t. let h : 2 ^ 31 ≤ n = nltb→le n (2 ^ 31) t in omega arith)
  where
    pick : (b : Bool) → (T b → n ≤ n) → (T (not b) → suc (2 ^ 32 - suc n) ≤ n) → nat_abs (sel b (pos n) (negsuc (2 ^ 32 - suc n))) ≤ n
    pick true f g = f tt
    pick false f g = g tt
kept (negsuc n) = pick (ltb (2 ^ 32 - suc n) (2 ^ 31)) (λ t. let h : 2 ^ 32 - suc n < 2 ^ 31 = ltb→lt (2 ^ 32 - suc n) (2 ^ 31) t in omega arith) (λ t. omega arith)
  where
    pick : (b : Bool) → (T b → 2 ^ 32 - suc n ≤ suc n) → (T (not b) → suc (2 ^ 32 - suc (2 ^ 32 - suc n)) ≤ suc n) → nat_abs (sel b (pos (2 ^ 32 - suc n)) (negsuc (2 ^ 32 - suc (2 ^ 32 - suc n)))) ≤ suc n
    pick true f g = f tt
    pick false f g = g tt

pub within : {n : ℕ} {z : ℤ} → Within n z → nat_abs (read32 z) ≤ n
within {n} {z} w = le_trans (kept z) w.le

pub half_of : (h : ℤ) (s : ℕ) → HalfOf h s → h ≡ pos (2 ^ (s - 1))
half_of (pos n) s t = ap pos (eqb→eq n (2 ^ (s - 1)) t)
half_of (negsuc n) s t = absurd t

-- an answer handed on is read back once more
pub again : (z : ℤ) (n : ℕ) (r : ℤ) → mag r < 2 ^ 31 → Is z n r → Is z n (read32 r)
again z n r f a = subst (λ (x : ℤ). Is z n x) (sym (to_z-of_z {w = w32} (sfits_of {w = w32} f))) a

-- what is read back of a number that is small is small
pub read : {n : ℕ} {z : ℤ} → Within n z → Within n (read32 z)
read {n} {z} w = record { le = within w }

-- what is read back of a number that came out of memory, a struct or a call
pub whole : {z : ℤ} → mag z < 2 ^ 31 → read32 z ≡ z
whole h = to_z-of_z {w = w32} (sfits_of {w = w32} h)

-- the same of eight
pub whole8 : (z0 z1 z2 z3 z4 z5 z6 z7 : ℤ)
    → mag z0 < 2 ^ 31 → mag z1 < 2 ^ 31 → mag z2 < 2 ^ 31 → mag z3 < 2 ^ 31 → mag z4 < 2 ^ 31 → mag z5 < 2 ^ 31 → mag z6 < 2 ^ 31 → mag z7 < 2 ^ 31
    → ◌≡◌ {A = List ℤ} (read32 z0 ∷ read32 z1 ∷ read32 z2 ∷ read32 z3 ∷ read32 z4 ∷ read32 z5 ∷ read32 z6 ∷ read32 z7 ∷ []) (z0 ∷ z1 ∷ z2 ∷ z3 ∷ z4 ∷ z5 ∷ z6 ∷ z7 ∷ [])
whole8 z0 z1 z2 z3 z4 z5 z6 z7 h0 h1 h2 h3 h4 h5 h6 h7 =
    λ i. whole {z = z0} h0 i ∷ whole {z = z1} h1 i ∷ whole {z = z2} h2 i ∷ whole {z = z3} h3 i ∷ whole {z = z4} h4 i ∷ whole {z = z5} h5 i
    ∷ whole {z = z6} h6 i ∷ whole {z = z7} h7 i ∷ []

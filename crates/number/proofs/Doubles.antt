-- Doubles by their units and their bits, and the root of a number of units from its 53 digits. Assumes nothing.
use Rattle.std.specs.Prelude.{Ok, Err}
use Rattle.std.proofs.Common.{◌≡◌, ℕ, zero, suc, ◌+◌, ◌-◌, ◌*◌, ◌/◌, ◌%◌, ◌^◌, ◌<◌, ◌≤◌, Bool, true, false, cond, not, T, eqb, ltb, leb, sym, refl, ap, ◌∙◌, subst, ap₂, lt_of_lt_of_le}
use Rattle.std.proofs.Common.{lt_irrefl, mul-le-mul_right, mod-eq_of_lt, mul_assoc, le_antisymm, lt_of_mul-lt-mul_right, mul-lt-mul_of_pos_right, mul-pos, zero-add, zero-mul, mul-one}
use Rattle.std.proofs.Common.{mul_right_comm, le_of_mul-le-mul_right, mul-div_cancel, arith, lit≤, pow_pos, pow_mono, pow-add, shl_lt, le-ltb, ne_eqb, le-leb}
use native.Mathlib.Nat.{eq_of_mul-eq-mul_right}
use native.Mathlib.Decide.{dec_le, dec_lt}
use lib.Count.{count_leading_zeros, leading_top}
use lib.Pow.{shl-shr}
use lib.Ieee.{Float, nan, inf, fin, binary64, up, down, low, emax, size, odd, units, fits, to_bits, of_bits, of_fields, nan_bits}
use lib.Ieee.Digits.{size-lt, size-le}
use lib.Ieee.Fits.{odd-fits, cond-fits, inf-fits, down_pos}
use lib.Ieee.Exact.{HasValue, odd_sign, units_val}
use lib.Ieee.Bits.{of_bits-to_bits, nan_bits_above}
use borrow.Author.Tests.{lt-leb}
use Rattle.refusal.specs.declared.Refusal.TheVariants as no
use Rattle.number.specs.Root.{nearest_root, units_of, root_of_units, root_of}

-- ---- how many digits a number has

size_is : (n j : ℕ) → 2 ^ j ≤ n → n < 2 ^ (j + 1) → size n ≡ j + 1
size_is n j a b = le_antisymm (size-le n (j + 1) b) (lower (dec_le (size n) j))
  where
    lower : Dec (size n ≤ j) → j + 1 ≤ size n
    lower (yes l) = absurd (omega (arith, size-lt n, pow_mono l))
    lower (no l) = omega arith

-- ---- n * 2 ^ c ≡ m * 2 ^ w: two ways to write one number

module _ (n m c w : ℕ) (e : n * 2 ^ c ≡ m * 2 ^ w) where
  pub other_scale : (a b : ℕ) → w + a ≡ b + c → n * 2 ^ a ≡ m * 2 ^ b
  other_scale a b q =
      eq_of_mul-eq-mul_right (2 ^ c) (pow_pos c) (n * 2 ^ a) (m * 2 ^ b)
      (mul_right_comm n (2 ^ a) (2 ^ c) ∙ ap (λ (x : ℕ). x * 2 ^ a) e ∙ mul_assoc m (2 ^ w) (2 ^ a)
      ∙ ap (λ (x : ℕ). m * x) (sym (pow-add 2 w a) ∙ ap (λ (x : ℕ). 2 ^ x) q ∙ pow-add 2 b c) ∙ sym (mul_assoc m (2 ^ b) (2 ^ c)))

  pub scale_from : (a j : ℕ) → 2 ^ a ≤ m → a + w ≡ j + c → 2 ^ j ≤ n
  scale_from a j h q =
      le_of_mul-le-mul_right {m = 2 ^ j} {n = n} {k = 2 ^ c}
      (rw (e, ← (pow-add 2 j c), ← q, pow-add) (mul-le-mul_right (2 ^ w) h)) (pow_pos c)

  scale_upto : (a j : ℕ) → m < 2 ^ a → a + w ≡ j + c → n < 2 ^ j
  scale_upto a j h q =
      lt_of_mul-lt-mul_right (2 ^ c) {m = n} {n = 2 ^ j}
      (rw (e, ← (pow-add 2 j c), ← q, pow-add) (mul-lt-mul_of_pos_right h (pow_pos w)))

-- ---- the root of n units, where n is m * 2 ^ (w - 1022) and m has 53 digits

module _ (n m c w : ℕ) (e : n * 2 ^ c ≡ m * 2 ^ w) (from : 2 ^ 52 ≤ m) (upto : m < 2 ^ 53) (is : c ≡ 1022) (least : 970 ≤ w) where
  scaled_size : size n ≡ w - 970 + 1
  scaled_size = size_is n (w - 970) (scale_from n m c w e 52 (w - 970) from (omega (arith, is, least))) (scale_upto n m c w e 53 (w - 970 + 1) upto (omega (arith, is, least)))

  abbrev half : ℕ
  half = (size n + 1) / 2

  half_is : half + 484 ≡ w / 2
  half_is = rw scaled_size (omega (arith, least))

  whole_part : n * 2 ^ 106 / 2 ^ (2 * half) ≡ m * 2 ^ (52 + w % 2)
  whole_part =
      let q : w + 106 ≡ 52 + w % 2 + 2 * half + c = omega (arith, is, half_is) in
      ap (λ (x : ℕ). x / 2 ^ (2 * half))
      (other_scale n m c w e 106 (52 + w % 2 + 2 * half) q ∙ ap (λ (x : ℕ). m * x) (pow-add 2 (52 + w % 2) (2 * half)) ∙ sym (mul_assoc m (2 ^ (52 + w % 2)) (2 ^ (2 * half))))
      ∙ mul-div_cancel (m * 2 ^ (52 + w % 2)) (pow_pos (2 * half))

  pub scaled_root : root_of_units n ≡ units binary64 false (nearest_root 53 (m * 2 ^ (52 + w % 2))) (w / 2)
  unfolding root_of_units
  scaled_root = ap₂ (λ (x y : ℕ). units binary64 false (nearest_root 53 x) y) whole_part half_is

-- ---- a double by its units

pub units_are : (v : Float) (s : Bool) (a : ℕ) → HasValue v s a (2 ^ low binary64) → units_of v ≡ a
unfolding units_of
units_are nan s a h = absurd h
units_are (inf t) s a h = absurd h
units_are (fin t m k) s a h = ap (λ (x : ℕ). x / down k) h.1 ∙ mul-div_cancel a (down_pos k)

root_of_value : (v : Float) (a : ℕ) → HasValue v false a (2 ^ low binary64) → 0 < a → root_of v ≡ Ok (root_of_units a)
unfolding root_of
root_of_value nan a h p = absurd h
root_of_value (inf t) a h p = absurd h
root_of_value (fin true m k) a h p = let z : ◌≡◌ {A = ℕ} 0 1 = cc h.0 in absurd (omega arith)
root_of_value (fin false zero k) a h p = absurd (lt_irrefl 0 (subst (λ (x : ℕ). 0 < x) (sym h.1 ∙ ap (λ (x : ℕ). x * 2 ^ low binary64) (zero-mul (up k)) ∙ zero-mul (2 ^ low binary64)) (mul-pos p (down_pos k))))
root_of_value (fin false (suc m) k) a h p = ap (λ (x : ℕ). Ok (root_of_units x)) (units_are (fin false (suc m) k) false a h)

-- ---- a double by its bits

-- below 2 ^ 52 there is no leading digit: the bits are the units
read_small : (b : ℕ) → b < 2 ^ 52 → HasValue (of_bits binary64 b) false b (2 ^ low binary64)
unfolding of_bits
read_small b h =
    let z : b % 2 ^ 63 / 2 ^ 52 ≡ 0 = omega arith in
    rw (lt-leb (2 ^ 63) b (omega arith), z, mod-eq_of_lt h) (subst (λ (x : ℕ). HasValue (odd 53 false b 0 1074) false x (2 ^ 1074)) (mul-one b) (odd_sign 53 false b 0 1074))

-- an exponent's field of k + 1 and the digits t
read_normal : (k t : ℕ) → k < 2046 → t < 2 ^ 52 → HasValue (of_bits binary64 ((k + 1) * 2 ^ 52 + t)) false ((2 ^ 52 + t) * 2 ^ k) (2 ^ low binary64)
unfolding of_bits
read_normal k t hk ht =
    let b = (k + 1) * 2 ^ 52 + t in
    let s : leb (2 ^ 63) b ≡ false = lt-leb (2 ^ 63) b (omega arith) in
    let x : b % 2 ^ 63 / 2 ^ 52 ≡ suc k = omega arith in
    let d : b % 2 ^ 52 ≡ t = omega arith in
    rw (s, x, d, ne_eqb (suc k) 2047 (λ (q : suc k ≡ 2047). omega arith)) (odd_sign 53 false (2 ^ 52 + t) k 1074)

-- a pattern below the infinity's is no NaN's
pub no_nan : (n : ℕ) → n < 2047 * 2 ^ 52 → T (not (nan_bits binary64 n))
no_nan n h = rw (nan_bits_above binary64 n, le-ltb (2047 * 2 ^ 52) (n % 2 ^ 63) (omega arith)) tt

-- from the infinity's pattern on, nothing has a root
odd_refused : (d q k l : ℕ) → root_of (odd d true q k l) ≡ Err no.Value
unfolding root_of odd
odd_refused d zero k l = refl
odd_refused d (suc q) k l = refl

fields_refused : (x t : ℕ) → root_of (of_fields binary64 true x t) ≡ Err no.Value
unfolding root_of of_fields
fields_refused zero t = odd_refused 53 t 0 1074
fields_refused (suc x) t = go (eqb (suc x) 2047) (eqb t 0)
  where
    go : (a b : Bool) → root_of (cond a (cond b (inf true) nan) (odd 53 true (2 ^ 52 + t) x 1074)) ≡ Err no.Value
    go true true = refl
    go true false = refl
    go false b = odd_refused 53 (2 ^ 52 + t) x 1074

last_refused : (t : ℕ) → root_of (of_fields binary64 false 2047 t) ≡ Err no.Value
unfolding root_of of_fields
last_refused t = go (eqb t 0)
  where
    go : (b : Bool) → root_of (cond b (inf false) nan) ≡ Err no.Value
    go true = refl
    go false = refl

pub read_refused : (b : ℕ) → 2047 * 2 ^ 52 ≤ b → root_of (of_bits binary64 b) ≡ Err no.Value
unfolding of_bits
read_refused b h = go (dec_le (2 ^ 63) b)
  where
    go : Dec (2 ^ 63 ≤ b) → root_of (of_fields binary64 (leb (2 ^ 63) b) (b % 2 ^ 63 / 2 ^ 52) (b % 2 ^ 52)) ≡ Err no.Value
    go (yes l) = rw (le-leb (2 ^ 63) b l) (fields_refused (b % 2 ^ 63 / 2 ^ 52) (b % 2 ^ 52))
    go (no l) =
        let x : b % 2 ^ 63 / 2 ^ 52 ≡ 2047 = omega arith in
        rw (lt-leb (2 ^ 63) b (omega arith), x) (last_refused (b % 2 ^ 52))

-- the bits of a double of a units, from its size
pub written : (v : Float) (a : ℕ) → HasValue v false a (2 ^ low binary64) → to_bits binary64 v ≡ (size a - 53) * 2 ^ 52 + a / 2 ^ (size a - 53)
unfolding to_bits
written nan a h = absurd h
written (inf t) a h = absurd h
written (fin true m k) a h = let z : ◌≡◌ {A = ℕ} 0 1 = cc h.0 in absurd (omega arith)
written (fin false m k) a h =
    let e : m * up k * 2 ^ low binary64 / down k ≡ a = ap (λ (x : ℕ). x / down k) h.1 ∙ mul-div_cancel a (down_pos k) in
    rw e (ap (λ (x : ℕ). x + a / 2 ^ (size a - 53)) (zero-add ((size a - 53) * 2 ^ 52)))

-- s * 2 ^ k units, for an s of 53 digits: the field below the leading digit's own is k
module _ (k s : ℕ) (hk : k < 2046) (from : 2 ^ 52 ≤ s) (upto : s < 2 ^ 53) where
  in_range : s * 2 ^ k < 2 ^ (low binary64 + suc (emax binary64))
  in_range = lt_of_lt_of_le (shl_lt 53 k upto) (pow_mono {i = 53 + k} {j = low binary64 + suc (emax binary64)} (omega (arith, hk)))

  pub units_fit : T (fits binary64 (units binary64 false s k))
  unfolding units
  units_fit =
      cond-fits binary64 (ltb (s * 2 ^ k) (2 ^ (low binary64 + suc (emax binary64)))) (odd 54 false s k (low binary64)) (inf false)
      (odd-fits binary64 54 false s k (omega (arith, upto)) (omega (arith, upto)) in_range) (inf-fits binary64 false)

  pub units_value : HasValue (units binary64 false s k) false (s * 2 ^ k) (2 ^ low binary64)
  units_value = units_val binary64 false s k in_range

  units_size : size (s * 2 ^ k) ≡ 52 + k + 1
  units_size = size_is (s * 2 ^ k) (52 + k) (rw (pow-add 2 52 k) (mul-le-mul_right (2 ^ k) from)) (subst (λ (x : ℕ). s * 2 ^ k < 2 ^ x) {x = 53 + k} {y = 52 + k + 1} (omega arith) (shl_lt 53 k upto))

  pub units_bits : of_bits binary64 (k * 2 ^ 52 + s) ≡ units binary64 false s k
  units_bits =
      let d : size (s * 2 ^ k) - 53 ≡ k = rw units_size (omega arith) in
      let b : to_bits binary64 (units binary64 false s k) ≡ k * 2 ^ 52 + s = written _ (s * 2 ^ k) units_value ∙ rw d (ap (λ (x : ℕ). k * 2 ^ 52 + x) (shl-shr s k)) in
      ap (of_bits binary64) (sym b) ∙ of_bits-to_bits binary64 _ units_fit

-- ---- the root of what the bits say, as the code puts it together

-- without a leading digit: the digits are moved up by u places
abbrev lift : ℕ → ℕ
lift d = count_leading_zeros 64 d - 11

pub record Lifted (d : ℕ) : Type 0 where
  pub zeros : (11 ≤ count_leading_zeros 64 d) × (count_leading_zeros 64 d < 64)
  pub exact : d * 2 ^ lift d % 2 ^ 64 ≡ d * 2 ^ lift d
  pub from : 2 ^ 52 ≤ d * 2 ^ lift d
  pub upto : d * 2 ^ lift d < 2 ^ 53

lifted_at : (d u j : ℕ) → u + j ≡ 52 → 2 ^ j ≤ d → d < 2 ^ suc j → (2 ^ 52 ≤ d * 2 ^ u) × (d * 2 ^ u < 2 ^ 53)
lifted_at d u j q a b = (
  subst (λ (x : ℕ). x ≤ d * 2 ^ u) (sym (pow-add 2 j u) ∙ ap (λ (x : ℕ). 2 ^ x) {x = j + u} {y = 52} (omega arith)) (mul-le-mul_right (2 ^ u) a),
  subst (λ (x : ℕ). d * 2 ^ u < 2 ^ x) {x = suc j + u} {y = 53} (omega arith) (shl_lt (suc j) u b),
)

pub lifted : (d : ℕ) → 0 < d → d < 2 ^ 52 → Lifted d
lifted d p h =
    let t = leading_top 64 d p (omega arith) in
    let j51 : t.0 < 52 = small t.0 t.2 in
    let q : lift d + t.0 ≡ 52 = omega (arith, t.1) in
    let r = lifted_at d (lift d) t.0 q t.2 t.3 in
    record { zeros = (omega (arith, t.1), omega (arith, t.1)); exact = mod-eq_of_lt (lt_of_lt_of_le r.1 (lit≤ tt)); from = r.0; upto = r.1 }
  where
    small : (j : ℕ) → 2 ^ j ≤ d → j < 52
    small j a = go (dec_lt j 52)
      where
        go : Dec (j < 52) → j < 52
        go (yes l) = l
        go (no l) = absurd (omega (arith, pow_mono {i = 52} {j = j} (omega arith)))

-- by how many places they are moved, each bound a fact of its own
pub lifted_from : (d : ℕ) → 0 < d → d < 2 ^ 52 → 11 ≤ count_leading_zeros 64 d
lifted_from d p h = (lifted d p h).zeros.0

pub lifted_upto : (d : ℕ) → 0 < d → d < 2 ^ 52 → count_leading_zeros 64 d < 64
lifted_upto d p h = (lifted d p h).zeros.1

pub ruleset lift_room = (lifted_from, lifted_upto)

moved_up : (c d u w : ℕ) → u + w ≡ c → d * 2 ^ c ≡ d * 2 ^ u * 2 ^ w
moved_up c d u w q = sym (mul_assoc d (2 ^ u) (2 ^ w) ∙ ap (λ (x : ℕ). d * x) (sym (pow-add 2 u w) ∙ ap (λ (x : ℕ). 2 ^ x) q))

pub small_root : (b : ℕ) → 0 < b → b < 2 ^ 52
    → root_of (of_bits binary64 b) ≡ Ok (units binary64 false (nearest_root 53 (b * 2 ^ lift b * 2 ^ (52 + (1022 - lift b) % 2))) ((1022 - lift b) / 2))
small_root b p h =
    let l = lifted b p h in
    root_of_value (of_bits binary64 b) b (read_small b h) p
    ∙ ap Ok
    (scaled_root b (b * 2 ^ lift b) 1022 (1022 - lift b) (moved_up 1022 b (lift b) (1022 - lift b) (omega (arith, l.zeros))) l.from l.upto refl (omega (arith, l.zeros)))

pub normal_root : (k t : ℕ) → k < 2046 → t < 2 ^ 52
    → root_of (of_bits binary64 ((k + 1) * 2 ^ 52 + t)) ≡ Ok (units binary64 false (nearest_root 53 ((2 ^ 52 + t) * 2 ^ (52 + (k + 1022) % 2))) ((k + 1022) / 2))
normal_root k t hk ht =
    root_of_value (of_bits binary64 ((k + 1) * 2 ^ 52 + t)) ((2 ^ 52 + t) * 2 ^ k) (read_normal k t hk ht) (mul-pos {m = 2 ^ 52 + t} {n = 2 ^ k} (omega arith) (pow_pos k))
    ∙ ap Ok (scaled_root ((2 ^ 52 + t) * 2 ^ k) (2 ^ 52 + t) 1022 (k + 1022) (sym (moved_up (k + 1022) (2 ^ 52 + t) k 1022 refl)) (omega arith) (omega arith) refl (omega arith))

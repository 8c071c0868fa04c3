-- What the definition of the root gives is the double nearest the exact root: no other double is nearer, and no tie can occur.
-- Doubles are counted in units, the smallest double, so the exact root of n units is the root of n * 2 ^ 1074, in units. Another double
-- y is farther from it than r is where the root lies on r's side of half way: (y + r)² < 4 * n * 2 ^ 1074 for a y below r, and the other
-- way round for one above. Both hold without equality, so no y is as near. Assumes nothing.
use Rattle.std.specs.Prelude.{Result, Ok, Err}
use Rattle.std.proofs.Common.{◌≡◌, ℕ, zero, suc, ◌+◌, ◌-◌, ◌*◌, ◌/◌, ◌%◌, ◌^◌, ◌<◌, ◌≤◌, Bool, true, false, ◌&&◌, T, eqb, ltb, leb, ℤ, pos, negsuc, sym, refl, ap, ◌∙◌, subst, zero-le, le_trans}
use Rattle.std.proofs.Common.{le_refl, lt_of_lt_of_le, lt_of_le_of_lt, le_of_lt, mul-le-mul_right, zero-lt-suc, mul_assoc, add-mul, mul-le-mul, lt_of_mul-lt-mul_right, mul-lt-mul_of_pos_right}
use Rattle.std.proofs.Common.{mul-pos, zero-mul, mul-one, mul_right_comm, div-mul-le_self, div-one, mul-div_cancel, arith, ltb→lt, leb→le, pow_pos, pow_mono, pow-add, shl_lt}
use native.Mathlib.Nat.{mul-mul-mul_comm}
use native.Mathlib.Nat.{mul-lt-mul_of_pos_left, zero-div}
use native.Mathlib.Decide.{dec_le, dec_lt}
use lib.Pow.{pow-lt}
use lib.Ieee.{Float, nan, inf, fin, binary64, up, down, low, emax, prec, fits, size, units}
use lib.Ieee.Digits.{size-lt, size_reaches, size-le}
use lib.Ieee.Fits.{and_l, and_r, down_pos}
use lib.Ieee.Exact.{HasValue}
use Rattle.refusal.specs.declared.Refusal.TheVariants as no
use Rattle.refusal.specs.declared.Refusal.{Refusal}
use Rattle.number.specs.Root.{nearest_root, units_of, root_of_units, root_of}
use Rattle.number.proofs.Whole.{Near, Scaled, shifted, near_from, near_upto, nearest_near, above_square, below_square, sorted}
use Rattle.number.proofs.Doubles.{units_are, units_value, units_fit, scaled_root, other_scale, scale_from}

-- ---- a double is at most 53 digits, moved up

pub record Shape (n : ℕ) : Type 0 where
  pub digits : ℕ
  pub places : ℕ
  pub few : digits < 2 ^ 53
  pub is : n ≡ digits * 2 ^ places

moved_down : (l k m : ℕ) → suc k ≤ l → m * 1 * 2 ^ l / 2 ^ suc k ≡ m * 2 ^ (l - suc k)
moved_down l k m h =
    ap (λ (x : ℕ). x / 2 ^ suc k)
    (ap (λ (x : ℕ). x * 2 ^ l) (mul-one m)
    ∙ ap (λ (x : ℕ). m * x) (ap (λ (x : ℕ). 2 ^ x) {x = l} {y = l - suc k + suc k} (omega arith) ∙ pow-add 2 (l - suc k) (suc k))
    ∙ sym (mul_assoc m (2 ^ (l - suc k)) (2 ^ suc k)))
    ∙ mul-div_cancel (m * 2 ^ (l - suc k)) (pow_pos (suc k))

pub power_le : (a b : ℕ) → 2 ^ a ≤ 2 ^ b → a ≤ b
power_le a b h = go (dec_le a b)
  where
    go : Dec (a ≤ b) → a ≤ b
    go (yes l) = l
    go (no l) = absurd (omega (arith, pow-lt {i = b} {j = a} (omega arith)))

places_of : (l m : ℕ) (e : ℤ) → down e ≤ 2 ^ l → (g : ℕ) × (m * up e * 2 ^ l / down e ≡ m * 2 ^ g)
places_of l m (pos k) h = (k + l, div-one _ ∙ mul_assoc m (2 ^ k) (2 ^ l) ∙ ap (λ (x : ℕ). m * x) (sym (pow-add 2 k l)))
places_of l m (negsuc k) h = (l - suc k, moved_down l k m (power_le (suc k) l h))

pub shape : (s : Bool) (m : ℕ) (e : ℤ) → T (fits binary64 (fin s m e)) → (d : Shape (units_of (fin s m e))) × (d.digits ≡ m)
unfolding fits units_of
shape s zero e h = (record { digits = 0; places = 0; few = omega arith; is = ap (λ (x : ℕ). x * 2 ^ low binary64 / down e) (zero-mul (up e)) ∙ ap (λ (x : ℕ). x / down e) (zero-mul (2 ^ low binary64)) ∙ zero-div (down e) }, refl)
shape s (suc m) e h =
    let A = eqb (suc m % 2) 1 in
    let B = ltb (suc m) (2 ^ prec binary64) in
    let C = leb (down e) (2 ^ low binary64) in
    let D = ltb (suc m * up e) (2 ^ suc (emax binary64) * down e) in
    let p = places_of (low binary64) (suc m) e (leb→le (down e) (2 ^ low binary64) (and_r (A && B) C (and_l (A && B && C) D h))) in
    (record { digits = suc m; places = p.0; few = ltb→lt (suc m) (2 ^ 53) (and_r A B (and_l (A && B) C (and_l (A && B && C) D h))); is = p.1 }, refl)

-- and it stays below 2 ^ 1024
below_top : (l t n a u d : ℕ) → 0 < d → n ≡ a * u * 2 ^ l / d → a * u < t * d → n < t * 2 ^ l
below_top l t n a u d p e h =
    lt_of_mul-lt-mul_right d {m = n} {n = t * 2 ^ l}
    (lt_of_le_of_lt (subst (λ (x : ℕ). x * d ≤ a * u * 2 ^ l) (sym e) (div-mul-le_self (a * u * 2 ^ l) d))
    (subst (λ (x : ℕ). a * u * 2 ^ l < x) (mul_right_comm t d (2 ^ l)) (mul-lt-mul_of_pos_right h (pow_pos l))))

-- ---- on the grid of 2 ^ j, of which r counts S, the other doubles are a whole step away

module _ (S j : ℕ) (from : 2 ^ 52 ≤ S) (y : ℕ) (d : Shape y) where
  coarse : j ≤ d.places → y ≡ d.digits * 2 ^ (d.places - j) * 2 ^ j
  coarse h =
      d.is ∙ ap (λ (x : ℕ). d.digits * x) (ap (λ (x : ℕ). 2 ^ x) {x = d.places} {y = d.places - j + j} (omega arith) ∙ pow-add 2 (d.places - j) j)
      ∙ sym (mul_assoc d.digits (2 ^ (d.places - j)) (2 ^ j))

  fine : d.places < j → y < 2 ^ 52 * 2 ^ j
  fine h =
      subst (λ (x : ℕ). x < 2 ^ 52 * 2 ^ j) (sym d.is)
      (lt_of_lt_of_le (shl_lt 53 d.places d.few) (subst (λ (x : ℕ). 2 ^ (53 + d.places) ≤ x) (pow-add 2 52 j) (pow_mono {i = 53 + d.places} {j = 52 + j} (omega arith))))

  step_up : S * 2 ^ j < y → (S + 1) * 2 ^ j ≤ y
  step_up h = go (dec_le j d.places)
    where
      go : Dec (j ≤ d.places) → (S + 1) * 2 ^ j ≤ y
      go (no l) = let a = fine (omega arith) in let b : 2 ^ 52 * 2 ^ j ≤ S * 2 ^ j = mul-le-mul_right (2 ^ j) from in absurd (omega arith)
      go (yes l) =
          let e = coarse l in
          let k : S < d.digits * 2 ^ (d.places - j) = lt_of_mul-lt-mul_right (2 ^ j) (subst (λ (x : ℕ). S * 2 ^ j < x) e h) in
          subst (λ (x : ℕ). (S + 1) * 2 ^ j ≤ x) (sym e) (mul-le-mul_right {m = S + 1} {n = d.digits * 2 ^ (d.places - j)} (2 ^ j) (omega arith))

  step_down : 2 ^ 52 < S → y < S * 2 ^ j → y ≤ (S - 1) * 2 ^ j
  step_down p h = go (dec_le j d.places)
    where
      go : Dec (j ≤ d.places) → y ≤ (S - 1) * 2 ^ j
      go (no l) = le_trans (le_of_lt (fine (omega arith))) (mul-le-mul_right {m = 2 ^ 52} {n = S - 1} (2 ^ j) (omega arith))
      go (yes l) =
          let e = coarse l in
          let k : d.digits * 2 ^ (d.places - j) < S = lt_of_mul-lt-mul_right (2 ^ j) (subst (λ (x : ℕ). x < S * 2 ^ j) e h) in
          subst (λ (x : ℕ). x ≤ (S - 1) * 2 ^ j) (sym e) (mul-le-mul_right {m = d.digits * 2 ^ (d.places - j)} {n = S - 1} (2 ^ j) (omega arith))

-- ---- and half way there lies beyond the root, X being the root's square on that grid

unfoldable pub Farther : (A y r : ℕ) → Type 0
Farther A y r = (y < r → (y + r) * (y + r) < 4 * A) × (r < y → 4 * A < (y + r) * (y + r))

module _ (y S P X : ℕ) (p : 0 < P) where
  squared : (a : ℕ) → a * P * (a * P) ≡ a * a * (P * P)
  squared a = mul-mul-mul_comm a P a P

  fourfold : 4 * X * (P * P) ≡ 4 * (X * (P * P))
  fourfold = mul_assoc 4 X (P * P)

  far_up : X ≤ S * (S + 1) → (S + 1) * P ≤ y → 4 * (X * (P * P)) < (y + S * P) * (y + S * P)
  far_up h l =
      let k : (2 * S + 1) * P ≤ y + S * P = omega (arith, add-mul (2 * S) 1 P, add-mul S 1 P, mul_assoc 2 S P) in
      let q : 4 * X < (2 * S + 1) * (2 * S + 1) = omega (arith, above_square S) in
      lt_of_lt_of_le (subst (λ (x : ℕ). x < (2 * S + 1) * (2 * S + 1) * (P * P)) fourfold (mul-lt-mul_of_pos_right q (mul-pos p p)))
      (subst (λ (x : ℕ). x ≤ (y + S * P) * (y + S * P)) (squared (2 * S + 1)) (mul-le-mul k k))

  far_down : 0 < S → S * (S - 1) < X → y ≤ (S - 1) * P → (y + S * P) * (y + S * P) < 4 * (X * (P * P))
  far_down o h l =
      let e : 2 * S - 1 ≡ S - 1 + S = omega arith in
      let k : y + S * P ≤ (2 * S - 1) * P = rw (e, add-mul) (omega arith) in
      let q : (2 * S - 1) * (2 * S - 1) < 4 * X = omega (arith, below_square S o) in
      lt_of_le_of_lt (subst (λ (x : ℕ). (y + S * P) * (y + S * P) ≤ x) (squared (2 * S - 1)) (mul-le-mul k k))
      (subst (λ (x : ℕ). (2 * S - 1) * (2 * S - 1) * (P * P) < x) fourfold (mul-lt-mul_of_pos_right q (mul-pos p p)))

  far_end : S * S ≤ X → y < S * P → (y + S * P) * (y + S * P) < 4 * (X * (P * P))
  far_end h l =
      let k : y + S * P < 2 * S * P = omega (arith, mul_assoc 2 S P) in
      let q : 2 * S * (2 * S) ≤ 4 * X = let e : 2 * S * (2 * S) ≡ 2 * (2 * (S * S)) = simp sorted refl in omega arith in
      lt_of_lt_of_le (lt_of_le_of_lt (mul-le-mul (le_of_lt k) (le_refl (y + S * P))) (mul-lt-mul_of_pos_left k (lt_of_le_of_lt (zero-le {n = y + S * P}) k)))
      (subst (λ (x : ℕ). 2 * S * P * (2 * S * P) ≤ x) fourfold (subst (λ (x : ℕ). x ≤ 4 * X * (P * P)) (sym (squared (2 * S))) (mul-le-mul_right (P * P) q)))

-- ---- 53 digits of any number of units, the leading one first

record Leading (c n : ℕ) : Type 0 where
  m : ℕ
  w : ℕ
  from : 2 ^ 52 ≤ m
  upto : m < 2 ^ 53
  least : 970 ≤ w
  is : n * 2 ^ c ≡ m * 2 ^ w

leading : (c n : ℕ) → c ≡ 1022 → (d : Shape n) → 0 < d.digits → Leading c n
leading c n q d p =
    let k = size d.digits - 1 in
    let z : size d.digits ≤ 53 = size-le d.digits 53 d.few in
    let o : 0 < size d.digits = some (dec_lt 0 (size d.digits)) in
    let a : 2 ^ k ≤ d.digits = size_reaches d.digits k (omega arith) in
    let b : d.digits < 2 ^ (k + 1) = subst (λ (x : ℕ). d.digits < 2 ^ x) {x = size d.digits} {y = k + 1} (omega arith) (size-lt d.digits) in
    record {
      m = d.digits * 2 ^ (52 - k);
      w = d.places + 970 + k;
      from = subst (λ (x : ℕ). x ≤ d.digits * 2 ^ (52 - k)) (sym (pow-add 2 k (52 - k)) ∙ ap (λ (x : ℕ). 2 ^ x) {x = k + (52 - k)} {y = 52} (omega arith)) (mul-le-mul_right (2 ^ (52 - k)) a);
      upto = subst (λ (x : ℕ). d.digits * 2 ^ (52 - k) < 2 ^ x) {x = k + 1 + (52 - k)} {y = 53} (omega arith) (shl_lt (k + 1) (52 - k) b);
      least = omega arith;
      is =
          ap (λ (x : ℕ). x * 2 ^ c) d.is ∙ mul_assoc d.digits (2 ^ d.places) (2 ^ c)
          ∙ ap (λ (x : ℕ). d.digits * x)
          (sym (pow-add 2 d.places c) ∙ ap (λ (x : ℕ). 2 ^ x) {x = d.places + c} {y = 52 - k + (d.places + 970 + k)} (omega arith) ∙ pow-add 2 (52 - k) (d.places + 970 + k))
          ∙ sym (mul_assoc d.digits (2 ^ (52 - k)) (2 ^ (d.places + 970 + k)));
    }
  where
    some : Dec (0 < size d.digits) → 0 < size d.digits
    some (yes l) = l
    some (no l) = let z : size d.digits ≡ 0 = omega arith in absurd (omega (arith, subst (λ (x : ℕ). d.digits < 2 ^ x) z (size-lt d.digits)))

-- ---- the law's own words

-- finite, and its sign is plus
abbrev pub NotBelow : Float → Type 0
NotBelow nan = ⊥
NotBelow (inf s) = ⊥
NotBelow (fin true m e) = ⊥
NotBelow (fin false m e) = Unit {0}

-- y is farther from the root of A units than r units are, unless it is r: half way between the two lies on r's side of the root. Of a y
-- below zero that is r - |y| < 2√A. What is not finite is no number, and is not compared.
abbrev pub Beyond : ℕ → Float → ℕ → Type 0
Beyond A nan r = Unit {0}
Beyond A (inf s) r = Unit {0}
Beyond A (fin false m e) r = Farther A (units_of (fin false m e)) r
Beyond A (fin true m e) r = (r - units_of (fin true m e)) * (r - units_of (fin true m e)) < 4 * A

-- r is the double nearest the exact root of x, and no other is as near
pub record Nearest (x r : Float) : Type 0 where
  pub double : T (fits binary64 r)
  pub sign : NotBelow r
  pub only : (y : Float) → T (fits binary64 y) → Beyond (units_of x * 2 ^ low binary64) y (units_of r)

-- what the answer to a root must be, for every double: a positive one's nearest root, +0 for +0, and 12 for all others
abbrev pub Right : Float → Result Float Refusal → Type 0
Right nan a = a ≡ Err no.Value
Right (inf s) a = a ≡ Err no.Value
Right (fin true m e) a = a ≡ Err no.Value
Right (fin false zero e) a = a ≡ Ok (fin false 0 (pos 0))
Right (fin false (suc m) e) (Ok r) = Nearest (fin false (suc m) e) r
Right (fin false (suc m) e) (Err k) = ⊥

value_positive : (v : Float) (a : ℕ) → HasValue v false a (2 ^ low binary64) → NotBelow v
value_positive nan a h = h
value_positive (inf t) a h = h
value_positive (fin true m k) a h = let z : ◌≡◌ {A = ℕ} 0 1 = cc h.0 in absurd (omega arith)
value_positive (fin false m k) a h = tt

-- a y below zero, from what is known of +0
below_zero : (A y r : ℕ) → 0 < A → (0 < r → (0 + r) * (0 + r) < 4 * A) → (r - y) * (r - y) < 4 * A
below_zero A y r p h = go (dec_lt 0 r)
  where
    shorter : r - y ≤ 0 + r
    shorter = omega arith

    go : Dec (0 < r) → (r - y) * (r - y) < 4 * A
    go (yes l) = lt_of_le_of_lt (mul-le-mul shorter shorter) (h l)
    go (no l) = let z : r - y ≡ 0 = omega arith in rw z (omega (arith, p))

-- ---- the law

module _ (c n m w : ℕ) (q : c ≡ 1022) (e : n * 2 ^ c ≡ m * 2 ^ w) (from : 2 ^ 52 ≤ m) (upto : m < 2 ^ 53) (least : 970 ≤ w) (most : w < 3072) where
  abbrev X : ℕ
  X = m * 2 ^ (52 + w % 2)

  abbrev S : ℕ
  S = nearest_root 53 X

  scaled : Scaled X
  scaled = shifted m (w % 2) record { from = from; upto = upto; bit = omega arith }

  near : Near X S
  near = nearest_near X scaled

  -- the root, and its square, on the grid
  root_units : units_of (root_of_units n) ≡ S * 2 ^ (w / 2)
  root_units = ap units_of (scaled_root n m c w e from upto q least) ∙ units_are _ false (S * 2 ^ (w / 2)) (units_value (w / 2) S (omega (arith, most)) (near_from X S scaled near) (near_upto X S scaled near))

  root_fits : T (fits binary64 (root_of_units n))
  root_fits = subst (λ (v : Float). T (fits binary64 v)) (sym (scaled_root n m c w e from upto q least)) (units_fit (w / 2) S (omega (arith, most)) (near_from X S scaled near) (near_upto X S scaled near))

  root_positive : NotBelow (root_of_units n)
  root_positive =
      subst (λ (v : Float). NotBelow v) (sym (scaled_root n m c w e from upto q least))
      (value_positive (units binary64 false S (w / 2)) (S * 2 ^ (w / 2)) (units_value (w / 2) S (omega (arith, most)) (near_from X S scaled near) (near_upto X S scaled near)))

  square_units : (l : ℕ) → l ≡ c + 52 → n * 2 ^ l ≡ X * (2 ^ (w / 2) * 2 ^ (w / 2))
  square_units l h =
      other_scale n m c w e l (52 + w % 2 + (w / 2 + w / 2)) (omega (arith, h))
      ∙ ap (λ (x : ℕ). m * x) (pow-add 2 (52 + w % 2) (w / 2 + w / 2) ∙ ap (λ (x : ℕ). 2 ^ (52 + w % 2) * x) (pow-add 2 (w / 2) (w / 2)))
      ∙ sym (mul_assoc m (2 ^ (52 + w % 2)) (2 ^ (w / 2) * 2 ^ (w / 2)))

  farther : (y : ℕ) → Shape y → Farther (X * (2 ^ (w / 2) * 2 ^ (w / 2))) y (S * 2 ^ (w / 2))
  unfolding Farther
  farther y d = (λ l. down_side l (dec_lt (2 ^ 52) S), λ l. far_up y S (2 ^ (w / 2)) X p near.above (step_up S (w / 2) s y d l))
    where
      p : 0 < 2 ^ (w / 2)
      p = pow_pos (w / 2)

      s : 2 ^ 52 ≤ S
      s = near_from X S scaled near

      down_side : y < S * 2 ^ (w / 2) → Dec (2 ^ 52 < S) → (y + S * 2 ^ (w / 2)) * (y + S * 2 ^ (w / 2)) < 4 * (X * (2 ^ (w / 2) * 2 ^ (w / 2)))
      down_side l (yes g) = far_down y S (2 ^ (w / 2)) X p (omega (arith, g)) near.below (step_down S (w / 2) s y d g l)
      down_side l (no g) = let i : S ≡ 2 ^ 52 = omega (arith, s, g) in far_end y S (2 ^ (w / 2)) X p (subst (λ (x : ℕ). x * x ≤ X) (sym i) scaled.least) l

-- a number of units with a place for its leading digit is in range
places_in : (l t c n w : ℕ) → t + l ≡ 2098 → c ≡ 1022 → n < 2 ^ t * 2 ^ l → (2 ^ (w - 970) ≤ n) → 970 ≤ w → w < 3072
places_in l t c n w q i h a least =
    let k : 2 ^ (w - 970) ≤ 2 ^ (t + l) = le_of_lt (lt_of_le_of_lt a (subst (λ (x : ℕ). n < x) (sym (pow-add 2 t l)) h)) in
    omega (arith, power_le (w - 970) (t + l) k)

pub units_in : (m : ℕ) (e : ℤ) → T (fits binary64 (fin false (suc m) e)) → units_of (fin false (suc m) e) < 2 ^ suc (emax binary64) * 2 ^ low binary64
unfolding fits units_of
units_in m e h =
    let A = eqb (suc m % 2) 1 in
    let B = ltb (suc m) (2 ^ prec binary64) in
    let C = leb (down e) (2 ^ low binary64) in
    let D = ltb (suc m * up e) (2 ^ suc (emax binary64) * down e) in
    below_top (low binary64) (2 ^ suc (emax binary64)) _ (suc m) (up e) (down e) (down_pos e) refl (ltb→lt _ _ (and_r (A && B && C) D h))

-- the root of a positive finite double: it is a double, not below zero, and every other is farther from the exact root
module _ (m : ℕ) (e : ℤ) (h : T (fits binary64 (fin false (suc m) e))) where
  abbrev given : ℕ
  given = units_of (fin false (suc m) e)

  drawn : Leading 1022 given
  drawn = let d = shape false (suc m) e h in leading 1022 given refl d.0 (subst (λ (x : ℕ). 0 < x) (sym d.1) (zero-lt-suc m))

  in_range : drawn.w < 3072
  in_range =
      places_in (low binary64) (suc (emax binary64)) 1022 given drawn.w refl refl (units_in m e h)
      (scale_from given drawn.m 1022 drawn.w drawn.is 52 (drawn.w - 970) drawn.from (places drawn.w drawn.least)) drawn.least
    where
      places : (w : ℕ) → 970 ≤ w → 52 + w ≡ w - 970 + 1022
      places w l = omega arith

  is_double : T (fits binary64 (root_of_units given))
  is_double = root_fits 1022 given drawn.m drawn.w refl drawn.is drawn.from drawn.upto drawn.least in_range

  is_positive : NotBelow (root_of_units given)
  is_positive = root_positive 1022 given drawn.m drawn.w refl drawn.is drawn.from drawn.upto drawn.least in_range

  others_farther : (s : Bool) (i : ℕ) (k : ℤ) → T (fits binary64 (fin s i k)) → Farther (given * 2 ^ low binary64) (units_of (fin s i k)) (units_of (root_of_units given))
  others_farther s i k g =
      rw (
        square_units 1022 given drawn.m drawn.w refl drawn.is drawn.from drawn.upto drawn.least in_range (low binary64) refl,
        root_units 1022 given drawn.m drawn.w refl drawn.is drawn.from drawn.upto drawn.least in_range,
      )
      (farther 1022 given drawn.m drawn.w refl drawn.is drawn.from drawn.upto drawn.least in_range (units_of (fin s i k)) (shape s i k g).0)

  some_square : 0 < given * 2 ^ low binary64
  some_square =
      let d = shape false (suc m) e h in
      mul-pos (subst (λ (x : ℕ). 0 < x) (sym d.0.is) (mul-pos (subst (λ (x : ℕ). 0 < x) (sym d.1) (zero-lt-suc m)) (pow_pos d.0.places))) (pow_pos (low binary64))

  zero_fits : T (fits binary64 (fin false 0 (pos 0)))
  unfolding fits
  zero_fits = tt

  zero_farther : (A r : ℕ) → Farther A (units_of (fin false 0 (pos 0))) r → 0 < r → (0 + r) * (0 + r) < 4 * A
  unfolding Farther units_of
  zero_farther A r f = f.0

  nearest_of_all : Nearest (fin false (suc m) e) (root_of_units given)
  nearest_of_all = record { double = is_double; sign = is_positive; only = only }
    where
      only : (y : Float) → T (fits binary64 y) → Beyond (given * 2 ^ low binary64) y (units_of (root_of_units given))
      only nan g = tt
      only (inf s) g = tt
      only (fin false i k) g = others_farther false i k g
      only (fin true i k) g =
          below_zero (given * 2 ^ low binary64) (units_of (fin true i k)) (units_of (root_of_units given)) some_square
          (zero_farther _ _ (others_farther false 0 (pos 0) zero_fits))

-- What the call answers is right for every double: the root of a positive one is a double that is not below zero, and every other double is
-- farther from the exact root; +0 has the root +0; nothing else has one.
pub root_nearest : (x : Float) → T (fits binary64 x) → Right x (root_of x)
unfolding root_of
root_nearest nan h = refl
root_nearest (inf s) h = refl
root_nearest (fin true m e) h = refl
root_nearest (fin false zero e) h = refl
root_nearest (fin false (suc m) e) h = nearest_of_all m e h

-- Whole numbers: the whole root and the nearest one meet their tests, and nothing else does. Assumes nothing.
use Rattle.std.proofs.Common.{◌≡◌, ℕ, zero, suc, ◌+◌, ◌-◌, ◌*◌, ◌/◌, ◌%◌, ◌^◌, ◌<◌, ◌≤◌, Bool, true, false, cond, ◌&&◌, ltb, leb, sym, refl, ap, ◌∙◌, add_assoc, mul_assoc}
use Rattle.std.proofs.Common.{mul_comm, add-mul, mul-le-mul, add_comm, le_antisymm, pow-suc, mul-add, mul_left_comm, arith, ltb-true, le-ltb, lt-ltb, le-leb}
use native.Mathlib.Nat.{add_left_comm, mul-lt-mul_of_pos_left}
use native.Mathlib.Decide.{dec_lt, dec_le}
use borrow.Author.Tests.{lt-leb}
use Rattle.number.specs.Root.{is_nearest, grown, whole_root, rounded, nearest_root}

pub ruleset sorted = (mul-add, add-mul, mul_assoc, mul_comm, mul_left_comm, add_assoc, add_comm, add_left_comm)

and_left : (a b : Bool) → (a && b) ≡ true → a ≡ true
and_left true b e = refl
and_left false b e = e

and_right : (a b : Bool) → (a && b) ≡ true → b ≡ true
and_right true b e = e
and_right false b e = cc

-- ---- squares

-- (s + 1)², and the square half way to it, doubled
next_square : (s : ℕ) → (s + 1) * (s + 1) ≡ s * s + 2 * s + 1
next_square s = let e : (s + 1) * (s + 1) ≡ s * s + s * 1 + (1 * s + 1 * 1) = simp sorted refl in omega arith

pub next_product : (s : ℕ) → s * (s + 1) ≡ s * s + s
next_product s = omega (arith, mul-add s s 1)

pub above_square : (s : ℕ) → (2 * s + 1) * (2 * s + 1) ≡ 4 * (s * (s + 1)) + 1
above_square s =
    let e : (2 * s + 1) * (2 * s + 1) ≡ 2 * (2 * (s * s)) + 2 * s * 1 + (1 * (2 * s) + 1 * 1) = simp sorted refl in
    omega (arith, next_product s)

pub below_square : (s : ℕ) → 0 < s → (2 * s - 1) * (2 * s - 1) ≡ 4 * (s * (s - 1)) + 1
below_square s h =
    let k = s - 1 in
    let e : s ≡ k + 1 = omega arith in
    let t : 2 * s - 1 ≡ 2 * k + 1 = omega arith in
    let p : s * (s - 1) ≡ k * (k + 1) = ap (λ (x : ℕ). x * k) e ∙ mul_comm (k + 1) k in
    rw (t, p) (above_square k)

-- ---- the nearest whole number, as the code tests it

pub record Near (n s : ℕ) : Type 0 where
  pub below : s * (s - 1) < n
  pub above : n ≤ s * (s + 1)

-- what a test that passed says
near_says : (n s : ℕ) → 0 < s → is_nearest n s ≡ true → Near n s
unfolding is_nearest
near_says n s h e =
    let b : (2 * s - 1) * (2 * s - 1) < 4 * n = ltb-true _ _ (and_left _ _ e) in
    let a : 4 * n < (2 * s + 1) * (2 * s + 1) = ltb-true _ _ (and_right (ltb ((2 * s - 1) * (2 * s - 1)) (4 * n)) _ e) in
    record { below = omega (arith, below_square s h); above = omega (arith, above_square s) }

-- two numbers that pass are one
near_le : (n s t : ℕ) → Near n s → Near n t → s ≤ t
near_le n s t a b = go (dec_le s t)
  where
    go : Dec (s ≤ t) → s ≤ t
    go (yes l) = l
    go (no l) =
        let h : t + 1 ≤ s = omega arith in
        let g : t ≤ s - 1 = omega arith in
        let p : (t + 1) * t ≤ s * (s - 1) = mul-le-mul h g in
        omega (arith, a.below, b.above, mul_comm (t + 1) t)

near_only : (n s t : ℕ) → Near n s → Near n t → s ≡ t
near_only n s t a b = le_antisymm (near_le n s t a b) (near_le n t s b a)

-- ---- the whole root

pub record Whole (n s : ℕ) : Type 0 where
  pub within : s * s ≤ n
  pub beyond : n < (s + 1) * (s + 1)

whole_le : (n s t : ℕ) → Whole n s → Whole n t → s ≤ t
whole_le n s t a b = go (dec_le s t)
  where
    go : Dec (s ≤ t) → s ≤ t
    go (yes l) = l
    go (no l) =
        let h : t + 1 ≤ s = omega arith in
        let p : (t + 1) * (t + 1) ≤ s * s = mul-le-mul h h in
        omega (arith, a.within, b.beyond)

whole_only : (n s t : ℕ) → Whole n s → Whole n t → s ≡ t
whole_only n s t a b = le_antisymm (whole_le n s t a b) (whole_le n t s b a)

-- from n / 4's root q, 2q or the next number up
grown_whole : (n q : ℕ) → Whole (n / 4) q → Whole n (grown n (2 * q))
unfolding grown
grown_whole n q c = go (dec_le ((2 * q + 1) * (2 * q + 1)) n)
  where
    s4 : 2 * q * (2 * q) ≡ 4 * (q * q)
    s4 = let e : 2 * q * (2 * q) ≡ 2 * (2 * (q * q)) = simp sorted refl in omega arith

    beyond : n < (2 * q + 1 + 1) * (2 * q + 1 + 1)
    beyond =
        let e : (2 * q + 1 + 1) * (2 * q + 1 + 1) ≡ 4 * ((q + 1) * (q + 1)) = next_square (2 * q + 1) ∙ omega (arith, next_square (2 * q), next_square q, s4) in
        omega (arith, c.beyond)

    go : Dec ((2 * q + 1) * (2 * q + 1) ≤ n) → Whole n (cond (leb ((2 * q + 1) * (2 * q + 1)) n) (2 * q + 1) (2 * q))
    go (yes l) = rw (le-leb _ _ l) record { within = l; beyond = beyond }
    go (no l) = rw (lt-leb ((2 * q + 1) * (2 * q + 1)) n (omega arith)) record { within = omega (arith, s4, c.within); beyond = omega arith }

pub whole_says : (d n : ℕ) → n < 4 ^ d → Whole n (whole_root d n)
unfolding whole_root
whole_says zero n h = record { within = omega arith; beyond = omega arith }
whole_says (suc d) n h = grown_whole n _ (whole_says d (n / 4) (omega (arith, pow-suc 4 d)))

-- ---- the nearest one

rounded_near : (n s : ℕ) → 0 < n → Whole n s → Near n (rounded n s)
unfolding rounded
rounded_near n s p c = go (dec_lt (4 * n) ((2 * s + 1) * (2 * s + 1)))
  where
    go : Dec (4 * n < (2 * s + 1) * (2 * s + 1)) → Near n (cond (ltb (4 * n) ((2 * s + 1) * (2 * s + 1))) s (s + 1))
    go (yes l) = rw (lt-ltb _ _ l) record { below = less (dec_lt 0 s); above = omega (arith, above_square s) }
      where
        less : Dec (0 < s) → s * (s - 1) < n
        less (yes h) = omega (arith, mul-lt-mul_of_pos_left {m = s - 1} {n = s} {k = s} (omega arith) h, c.within)
        less (no h) = let z : s ≡ 0 = omega arith in rw z p
    go (no l) =
        rw (le-ltb (4 * n) ((2 * s + 1) * (2 * s + 1)) (omega arith))
        record {
          below = let e : (s + 1) * (s + 1 - 1) ≡ s * (s + 1) = ap (λ (x : ℕ). (s + 1) * x) {x = s + 1 - 1} {y = s} (omega arith) ∙ mul_comm (s + 1) s in omega (arith, above_square s);
          above = omega (arith, mul-add (s + 1) (s + 1) 1, c.beyond);
        }

-- what passes the test is the nearest root
nearest_is : (d n s : ℕ) → 0 < n → n < 4 ^ d → Near n s → s ≡ nearest_root d n
unfolding nearest_root
nearest_is d n s p h c = near_only n s _ c (rounded_near n _ p (whole_says d n h))

-- ---- how the search ends

round_up : (n s : ℕ) → s * (s + 1) < n → rounded n s ≡ s + 1
unfolding rounded
round_up n s l = rw (le-ltb (4 * n) ((2 * s + 1) * (2 * s + 1)) (omega (arith, above_square s)))

round_stay : (n s : ℕ) → n ≤ s * (s + 1) → rounded n s ≡ s
unfolding rounded
round_stay n s l = rw (lt-ltb (4 * n) ((2 * s + 1) * (2 * s + 1)) (omega (arith, above_square s)))

-- from the last one whose square is at most n
module _ (n s : ℕ) (h : n < 4 ^ 53) (within : s * s ≤ n) (beyond : n < (s + 1) * (s + 1)) where
  is_whole : s ≡ whole_root 53 n
  is_whole = whole_only n s _ record { within = within; beyond = beyond } (whole_says 53 n h)

  pub nearest_up : s * (s + 1) < n → s + 1 ≡ nearest_root 53 n
  unfolding nearest_root
  nearest_up l = sym (round_up n s l) ∙ ap (rounded n) is_whole

  pub nearest_stay : n ≤ s * (s + 1) → s ≡ nearest_root 53 n
  unfolding nearest_root
  nearest_stay l = sym (round_stay n s l) ∙ ap (rounded n) is_whole

-- ---- the root of m * 2 ^ (52 + odd), for an m of 53 digits, has 53 digits

pub record Digits (m odd : ℕ) : Type 0 where
  pub from : 2 ^ 52 ≤ m
  pub upto : m < 2 ^ 53
  pub bit : odd < 2

pub record Scaled (n : ℕ) : Type 0 where
  pub least : 2 ^ 104 ≤ n
  pub most : n ≤ (2 ^ 53 - 1) * 2 ^ 53

pub shifted : (m odd : ℕ) → Digits m odd → Scaled (m * 2 ^ (52 + odd))
shifted m zero d = record { least = omega (arith, d); most = omega (arith, d) }
shifted m (suc zero) d = record { least = omega (arith, d); most = omega (arith, d) }
shifted m (suc (suc k)) d = absurd (omega (arith, d))

pub record Answered (n s : ℕ) : Type 0 where
  pub is : s ≡ nearest_root 53 n
  pub from : 2 ^ 52 ≤ s
  pub upto : s < 2 ^ 53

pub near_from : (n s : ℕ) → Scaled n → Near n s → 2 ^ 52 ≤ s
near_from n s a c = go (dec_lt s (2 ^ 52))
  where
    go : Dec (s < 2 ^ 52) → 2 ^ 52 ≤ s
    go (no l) = omega arith
    go (yes l) =
        let p : s * (s + 1) ≤ (2 ^ 52 - 1) * 2 ^ 52 = mul-le-mul {n₁ = s} {m₁ = s + 1} {n₂ = 2 ^ 52 - 1} {m₂ = 2 ^ 52} (omega arith) (omega arith) in
        absurd (omega (arith, a.least, c.above))

pub near_upto : (n s : ℕ) → Scaled n → Near n s → s < 2 ^ 53
near_upto n s a c = go (dec_lt s (2 ^ 53))
  where
    go : Dec (s < 2 ^ 53) → s < 2 ^ 53
    go (yes l) = l
    go (no l) =
        let p : 2 ^ 53 * (2 ^ 53 - 1) ≤ s * (s - 1) = mul-le-mul {n₁ = 2 ^ 53} {m₁ = 2 ^ 53 - 1} {n₂ = s} {m₂ = s - 1} (omega arith) (omega arith) in
        absurd (omega (arith, a.most, c.below))

scaled_pos : (n : ℕ) → Scaled n → 0 < n
scaled_pos n a = omega (arith, a.least)

pub scaled_lt : (n : ℕ) → Scaled n → n < 4 ^ 53
scaled_lt n a = omega (arith, a.most)

-- a number that passes the test is the answer
pub passed : (n s : ℕ) → Scaled n → 0 < s → is_nearest n s ≡ true → Answered n s
passed n s a p e =
    let c = near_says n s p e in
    record { is = nearest_is 53 n s (scaled_pos n a) (scaled_lt n a) c; from = near_from n s a c; upto = near_upto n s a c }

-- and so is the definition's
pub nearest_near : (n : ℕ) → Scaled n → Near n (nearest_root 53 n)
unfolding nearest_root
nearest_near n a = rounded_near n _ (scaled_pos n a) (whole_says 53 n (scaled_lt n a))

pub defined : (n : ℕ) → Scaled n → Answered n (nearest_root 53 n)
defined n a =
    let c = nearest_near n a in
    record { is = refl; from = near_from n _ a c; upto = near_upto n _ a c }

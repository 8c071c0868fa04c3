-- The nearest test as the code makes it, on squares. Assumes nothing.
use Rattle.std.proofs.Common.{◌≡◌, ℕ, ◌+◌, ◌-◌, ◌*◌, ◌^◌, ◌<◌, ◌≤◌, Bool, ◌&&◌, ltb, leb, sym, ap, ◌∙◌, ap₂, mul-le-mul, mul-add, arith, le-ltb, lt-ltb, le-leb}
use native.Mathlib.Decide.{dec_le}
use borrow.Author.Tests.{lt-leb}
use Rattle.number.specs.Root.{is_nearest}
use Rattle.number.proofs.Whole.{above_square, below_square, next_product}
use Rattle.number.proofs.Words.{ltb_same}

before_square : (s : ℕ) → 0 < s → s * s ≡ s * (s - 1) + s
before_square s p = let q : s ≡ s - 1 + 1 = omega arith in ap (λ (x : ℕ). s * x) q ∙ omega (arith, mul-add s (s - 1) 1)

pub square_from : (s : ℕ) → 0 < s → s ≤ s * s
square_from s p = omega (arith, before_square s p)

pub square_upto : (s : ℕ) → s ≤ 2 ^ 53 → s * s ≤ 2 ^ 106
square_upto s h = mul-le-mul h h

pub ruleset squares_fit = (square_from, square_upto)

leb_same : (a b c d : ℕ) → (a ≤ b → c < d) → (b < a → d ≤ c) → leb a b ≡ ltb c d
leb_same a b c d f g = go (dec_le a b)
  where
    go : Dec (a ≤ b) → leb a b ≡ ltb c d
    go (yes l) = le-leb a b l ∙ sym (lt-ltb c d (f l))
    go (no l) = let h : b < a = omega arith in lt-leb a b h ∙ sym (le-ltb c d (g h))

-- s² - s < n ≤ s² + s is the test
pub near_test : (n s : ℕ) → 0 < s → (ltb (s * s - s) n && leb n (s * s + s)) ≡ is_nearest n s
unfolding is_nearest
near_test n s p = ap₂ (λ (x y : Bool). x && y) below above
  where
    B : (2 * s - 1) * (2 * s - 1) + 4 * s ≡ 4 * (s * s) + 1
    B = omega (arith, below_square s p, before_square s p)

    A : (2 * s + 1) * (2 * s + 1) ≡ 4 * (s * s) + 4 * s + 1
    A = omega (arith, above_square s, next_product s)

    room : s ≤ s * s
    room = square_from s p

    below : ltb (s * s - s) n ≡ ltb ((2 * s - 1) * (2 * s - 1)) (4 * n)
    below = ltb_same (s * s - s) n ((2 * s - 1) * (2 * s - 1)) (4 * n) (λ (t : s * s - s < n). omega (arith, B, room)) (λ (t : n ≤ s * s - s). omega (arith, B, room))

    above : leb n (s * s + s) ≡ ltb (4 * n) ((2 * s + 1) * (2 * s + 1))
    above = leb_same n (s * s + s) (4 * n) ((2 * s + 1) * (2 * s + 1)) (λ (t : n ≤ s * s + s). omega (arith, A)) (λ (t : s * s + s < n). omega (arith, A))

-- L is the least power of two not below the tap count. Assumes nothing.
use mathlib.Core.Path.{◌≡◌, refl}
use Prim.Native.Nat.{ℕ, zero, suc, ◌+◌, ◌*◌, ◌≤◌, ◌<◌, ◌^◌, ◌/◌, min, max}
use native.Mathlib.Nat.{pow-succ', mul-le-mul}
use native.Mathlib.Decide.{dec_lt}
use native.Mathlib.Omega.{arith}
use borrow.Author.Tests.{lt-ltb, le-ltb}
use lib.Pow.{pow_pos, pow_mono}
use Rattle.std.specs.Int.{IsPowerOfTwo}
use Rattle.plane.specs.Limits.{side_limit}
use Rattle.plane.proofs.Limits.{side_small}
use Rattle.kernel.specs.Kernel.{most_taps}
use Rattle.kernel.proofs.Says.{taps_room}
use Rattle.number.specs.Steps.{fold_to}
use Rattle.ssim.specs.Scratch.{doubled_below, next_power}

doubled_below_lem : (n p : ℕ) → p < n → doubled_below n p ≡ 2 * p
unfolding doubled_below
doubled_below_lem n p l = rw (lt-ltb p n l)

doubled_there : (n p : ℕ) → n ≤ p → doubled_below n p ≡ p
unfolding doubled_below
doubled_there n p l = rw (le-ltb p n l)

-- what p has where it reaches n, and twice p where it does not, the next has
doubled_all : (P : ℕ → Type 0) (n p : ℕ) → (n ≤ p → P p) → (p < n → P (2 * p)) → P (doubled_below n p)
doubled_all P n p stay more = go (dec_lt p n)
  where
    go : Dec (p < n) → P (doubled_below n p)
    go (yes l) = rw (doubled_below_lem n p l) (more l)
    go (no l) = rw (doubled_there n p (omega arith)) (stay (omega arith))

-- so each of them has what 1 has and a doubling keeps
kept : (P : ℕ → Type 0) (n : ℕ) → P 1 → ((p : ℕ) → P p → p < n → P (2 * p)) → P (next_power n)
unfolding next_power fold_to
kept P n one more = go n
  where
    go : (i : ℕ) → P (fold_to (λ (p j : ℕ). doubled_below n p) 1 i)
    go zero = one
    go (suc i) = let q = go i in doubled_all P n _ (λ l. q) (more _ q)

-- no product of it leaves the machine's numbers
pub power_le : (n : ℕ) → 1 ≤ n → next_power n ≤ 2 * n
power_le n l = kept (λ (q : ℕ). q ≤ 2 * n) n (omega arith) (λ p q m. omega arith)

-- nor what a row of lines takes
pub places_room : (sums width n : ℕ) → sums ≤ 16 → width ≤ side_limit → 1 ≤ n → n ≤ most_taps → sums * width * next_power n < 2 ^ 64
places_room sums width n few l some short =
    let narrow : width ≤ 2 ^ 14 = omega (arith, side_small) in
    let row : sums * width ≤ 16 * 2 ^ 14 = mul-le-mul few narrow in
    let lines : next_power n ≤ 2 ^ 40 = omega (arith, taps_room, power_le n some) in
    omega (arith, mul-le-mul row lines)

-- ---- the least power of two not below the tap count

-- a power of two
power_is : (n : ℕ) → (k : ℕ) × (next_power n ≡ 2 ^ k)
power_is n = kept (λ (q : ℕ). (k : ℕ) × (q ≡ 2 ^ k)) n (0, refl) (λ p q l. (suc q.0, rw (q.1, pow-succ' 2 q.0)))

-- not below the count
pub power_reach : (n : ℕ) → n ≤ next_power n
unfolding next_power fold_to
power_reach n = omega (arith, far n)
  where
    far : (i : ℕ) → min n (i + 1) ≤ fold_to (λ (p j : ℕ). doubled_below n p) 1 i
    far zero = omega arith
    far (suc i) = let q = far i in doubled_all (λ (p : ℕ). min n (suc i + 1) ≤ p) n _ (λ l. omega arith) (λ l. omega arith)

-- and no other such power is below it
power_least : (n k : ℕ) → n ≤ 2 ^ k → next_power n ≤ 2 ^ k
power_least n k l =
    (kept (λ (q : ℕ). ((j : ℕ) × (q ≡ 2 ^ j)) × (q ≤ 2 ^ k)) n ((0, refl), pow_pos k)
    (λ p q m. ((suc q.0.0, rw (q.0.1, pow-succ' 2 q.0.0)), twice p q.0.0 q.0.1 (omega arith) (dec_lt q.0.0 k)))).1
  where
    twice : (p j : ℕ) → p ≡ 2 ^ j → p < 2 ^ k → Dec (j < k) → 2 * p ≤ 2 ^ k
    twice p j e m (yes d) = let t : 2 ^ suc j ≤ 2 ^ k = pow_mono d in rw e (omega (arith, t, pow-succ' 2 j))
    twice p j e m (no d) = let t : 2 ^ k ≤ 2 ^ j = pow_mono (omega arith) in omega arith

-- so whatever is one, and the least, is that one
pub least_power : (n p : ℕ) → IsPowerOfTwo p → n ≤ p → p / 2 < max 1 n → 1 ≤ n → p ≡ next_power n
least_power n p k reach least some =
    let q = power_is n in
    let few : next_power n ≤ p = rw k.1 (power_least n k.0 (omega (arith, k.1))) in
    let many : p ≤ next_power n = within k.0 q.0 k.1 q.1 (dec_lt q.0 k.0) in
    omega (arith, few, many)
  where
    within : (i j : ℕ) → p ≡ 2 ^ i → next_power n ≡ 2 ^ j → Dec (j < i) → p ≤ next_power n
    within i j e f (yes d) = let t : 2 ^ suc j ≤ 2 ^ i = pow_mono d in omega (arith, t, e, f, pow-succ' 2 j, power_reach n)
    within i j e f (no d) = let t : 2 ^ i ≤ 2 ^ j = pow_mono (omega arith) in omega (arith, t, e, f)

-- Laws of `inside` and of a window along one side. Assumes nothing.
use mathlib.Core.Path.{◌≡◌, sym, ◌∙◌}
use mathlib.Core.List.{List}
use Prim.Native.Nat.{ℕ, ◌+◌, ◌-◌, ◌*◌, ◌≤◌, ◌<◌, ◌/◌}
use native.Mathlib.Nat.{mul-zero, mul-one, one-mul, mul-le-mul_left, mul_comm, le_trans, le_refl}
use native.Mathlib.Decide.{dec_lt}
use native.Mathlib.Omega.{arith}
use borrow.Author.Tests.{lt-ltb, le-ltb}
use lib.ListN.{length}
use Rattle.plane.specs.Sums.{sum_to}
use Rattle.plane.proofs.Limits.{side_small}
use Rattle.plane.proofs.Sums.{sum_more, sum_tail, sum_zero, sum_mono, sum_mul, sum_le, sum_ext}
use Rattle.kernel.specs.Kernel.{tap, fixed_total}
use Rattle.kernel.proofs.Says.{taps_room}
use Rattle.window.specs.Moments.{clipped}
use Rattle.window.specs.Inner.Parts.{part_of, window_of, weight_of, Kernel}

-- ---- inside, below and above
module _ (off side : ℕ) (f : ℕ → ℕ) (j : ℕ) where
  pub clipped_in : off ≤ j → j < off + side → clipped off side f j ≡ f (j - off)
  unfolding clipped
  clipped_in l m = simp (le-ltb _ _ l, lt-ltb _ _ m)

  pub clipped_below : j < off → clipped off side f j ≡ 0
  unfolding clipped
  clipped_below l = simp (lt-ltb _ _ l)

  pub clipped_above : off + side ≤ j → clipped off side f j ≡ 0
  unfolding clipped
  clipped_above l = let m : off ≤ j = omega arith in simp (le-ltb _ _ m, le-ltb _ _ l)

-- what holds of 0, and of f where it counts, holds of what is seen
clipped_all : (P : ℕ → Type 0) (off side : ℕ) (f : ℕ → ℕ) (j : ℕ) → P 0 → (off ≤ j → j < off + side → P (f (j - off)))
    → P (clipped off side f j)
clipped_all P off side f j z h = go (dec_lt j off) (dec_lt j (off + side))
  where
    go : Dec (j < off) → Dec (j < off + side) → P (clipped off side f j)
    go (yes l) d = rw (clipped_below off side f j l) z
    go (no n) (no m) = rw (clipped_above off side f j (omega arith)) z
    go (no n) (yes m) = rw (clipped_in off side f j (omega arith) m) (h (omega arith) m)

-- the same of two that are seen through the same window
pub clipped_both : (P : ℕ → ℕ → Type 0) (off side : ℕ) (f g : ℕ → ℕ) (j : ℕ) → P 0 0
    → (off ≤ j → j < off + side → P (f (j - off)) (g (j - off))) → P (clipped off side f j) (clipped off side g j)
clipped_both P off side f g j z h = go (dec_lt j off) (dec_lt j (off + side))
  where
    go : Dec (j < off) → Dec (j < off + side) → P (clipped off side f j) (clipped off side g j)
    go (yes l) d = rw (clipped_below off side f j l, clipped_below off side g j l) z
    go (no n) (no m) = rw (clipped_above off side f j (omega arith), clipped_above off side g j (omega arith)) z
    go (no n) (yes m) = rw (clipped_in off side f j (omega arith) m, clipped_in off side g j (omega arith) m) (h (omega arith) m)

-- ---- the window over f with its middle at x, tap by tap
module _ (ker : List ℕ) (side : ℕ) (f : ℕ → ℕ) (x : ℕ) where
  -- a tap inside, at the code's k + 1
  pub part_more : (k : ℕ) → length ker / 2 ≤ x + k → x + k < length ker / 2 + side
      → part_of ker side f x (k + 1) ≡ part_of ker side f x k + tap ker k * f (x + k - length ker / 2)
  unfolding part_of
  part_more k l m = rw (sum_more, clipped_in _ _ f _ l m)

  -- no tap before the first inside counts
  pub part_first : (k : ℕ) → k ≤ length ker / 2 - x → part_of ker side f x k ≡ 0
  unfolding part_of
  part_first k l = sum_zero _ _ (λ (i : ℕ) (m : i < k). rw (clipped_below (length ker / 2) side f (x + i) (omega arith)) (mul-zero _))

  -- none past the last inside counts
  pub part_last : Kernel ker → (k : ℕ) → length ker - (x + length ker / 2 + 1 - side) ≤ k → k ≤ length ker
      → part_of ker side f x k ≡ window_of ker side f x
  unfolding part_of
  part_last r k l m =
      sym (sum_tail _ k (length ker) m
      (λ (i : ℕ) (a : k ≤ i) (b : i < length ker). rw (clipped_above (length ker / 2) side f (x + i) (omega arith)) (mul-zero _)))

  -- over values of at most B, n taps come to at most B times what all taps sum to
  pub part_below : (B : ℕ)
      → ((k : ℕ) → k < length ker → length ker / 2 ≤ x + k → x + k < length ker / 2 + side → f (x + k - length ker / 2) ≤ B)
      → (n : ℕ) → n ≤ length ker → part_of ker side f x n ≤ B * sum_to (tap ker) (length ker)
  unfolding part_of
  part_below B h n l =
      le_trans
      (sum_le _ (λ (k : ℕ). B * tap ker k) n
      (λ k m. rw (mul_comm B)
      (mul-le-mul_left (tap ker k) (clipped_all (λ (v : ℕ). v ≤ B) _ side f (x + k) (omega arith) (h k (omega arith))))))
      (rw (sum_mul (tap ker) B n) (mul-le-mul_left B (sum_mono (tap ker) n (length ker) l)))

  -- which is at most this, for every lawful kernel
  pub part_le : (B : ℕ) → Kernel ker
      → ((k : ℕ) → k < length ker → length ker / 2 ≤ x + k → x + k < length ker / 2 + side → f (x + k - length ker / 2) ≤ B)
      → (n : ℕ) → n ≤ length ker → part_of ker side f x n ≤ B * fixed_total
  part_le B r h n l = le_trans (part_below B h n l) (mul-le-mul_left B r.light)

  -- so a further tap has room
  pub part_room : (B s k : ℕ) → Kernel ker
      → ((k : ℕ) → k < length ker → length ker / 2 ≤ x + k → x + k < length ker / 2 + side → f (x + k - length ker / 2) ≤ B)
      → s ≡ part_of ker side f x k → k < length ker → length ker / 2 ≤ x + k → x + k < length ker / 2 + side
      → s + tap ker k * f (x + k - length ker / 2) ≤ B * fixed_total
  part_room B s k r h e l m n = rw (e, ← part_more k m n) (part_le B r h (k + 1) (omega arith))

-- ---- weights
module _ (ker : List ℕ) (side x : ℕ) where
  -- the weight of the first k taps: one tap more, of the number v
  pub weight_more : (k j v : ℕ) → j ≡ k + 1 → v ≡ tap ker k → length ker / 2 ≤ x + k → x + k < length ker / 2 + side
      → part_of ker side (λ (i : ℕ). 1) x j ≡ part_of ker side (λ (i : ℕ). 1) x k + v
  weight_more k j v e f l m = rw (e, f) (part_more ker side (λ (i : ℕ). 1) x k l m ∙ rw mul-one)

  -- it has room
  pub weight_part : Kernel ker → (k : ℕ) → k ≤ length ker → part_of ker side (λ (i : ℕ). 1) x k ≤ fixed_total
  weight_part r k l = rw one-mul at (part_le ker side (λ (i : ℕ). 1) x 1 r (λ _ _ _ _. le_refl 1) k l)

  -- a window that lies inside has all of the taps
  pub weight_whole : Kernel ker → length ker / 2 ≤ x → x + length ker / 2 < side → weight_of ker side x ≡ sum_to (tap ker) (length ker)
  unfolding part_of
  weight_whole r l m =
      sum_ext _ _ (length ker) (λ (k : ℕ) (n : k < length ker).
      let odd = r.odd in
      rw (clipped_in (length ker / 2) side (λ (i : ℕ). 1) (x + k) (omega arith) (omega arith)) (mul-one (tap ker k)))

  -- one number all over
  pub window_same : (c : ℕ) → window_of ker side (λ (i : ℕ). c) x ≡ c * weight_of ker side x
  unfolding part_of
  window_same c =
      sum_ext _ (λ (k : ℕ). c * (tap ker k * clipped (length ker / 2) side (λ (i : ℕ). 1) (x + k))) (length ker) (λ k l.
      clipped_both (λ (u v : ℕ). tap ker k * u ≡ c * (tap ker k * v)) (length ker / 2) side _ _ (x + k)
      (rw (mul-zero (tap ker k), mul-zero c)) (λ m n. rw (mul-one (tap ker k)) (mul_comm _ _)))
      ∙ sum_mul _ c (length ker)

  pub weight_le : Kernel ker → weight_of ker side x ≤ fixed_total
  weight_le r = omega (arith, part_le ker side (λ (i : ℕ). 1) x 1 r (λ k a b d. le_refl 1) (length ker) (le_refl _))

-- what the weight rests on where all taps lie inside
pub ruleset whole_inside = (side_small, taps_room, weight_whole)

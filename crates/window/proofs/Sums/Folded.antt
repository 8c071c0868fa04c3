-- Taps over numbers that have their margins of zeros with them: folded from both ends to the middle, since a kernel is the same from
-- both. Assumes nothing.
use mathlib.Core.Path.{◌≡◌}
use mathlib.Core.List.{List}
use Prim.Native.Nat.{ℕ, ◌+◌, ◌-◌, ◌*◌, ◌/◌, ◌≤◌, ◌<◌, ◌^◌}
use native.Mathlib.Nat.{mul-add, mul_comm, mul-le-mul_left, le_trans}
use native.Mathlib.Omega.{arith}
use lib.ListN.{length}
use Rattle.plane.specs.Sums.{sum_to}
use Rattle.plane.proofs.Sums.{sum_none, sum_more, sum_mono, sum_mul, sum_le, sum_ext, sum_fold}
use Rattle.kernel.specs.Kernel.{tap, fixed_total}
use Rattle.window.specs.Inner.Parts.{Kernel, across_of, folded_of, folds_of, five_sums_of, tapped_of, Room}
use Rattle.window.specs.declared.FiveSums.{FiveSums}
use Rattle.window.proofs.Sums.Five.{five_ext, nth_of, row_room}

module _ (ker : List ℕ) (g : ℕ → ℕ) (x : ℕ) where
  -- the middle tap alone
  folded_none : folded_of ker g x 0 ≡ 0 + tap ker (length ker / 2) * g (x + length ker / 2)
  unfolding folded_of
  folded_none = omega (arith, sum_none (λ (k : ℕ). tap ker k * (g (x + k) + g (x + 2 * (length ker / 2) - k))))

  -- a pair more
  folded_more : (k : ℕ) → folded_of ker g x (k + 1) ≡ folded_of ker g x k + tap ker k * (g (x + k) + g (x + 2 * (length ker / 2) - k))
  unfolding folded_of
  folded_more k = omega (arith, sum_more (λ (j : ℕ). tap ker j * (g (x + j) + g (x + 2 * (length ker / 2) - j))) k)

  -- all pairs
  folded_all : Kernel ker → folded_of ker g x (length ker / 2) ≡ across_of ker g x
  unfolding folded_of across_of
  folded_all r =
      let off = length ker / 2 in
      let pairs : sum_to (λ (k : ℕ). tap ker k * (g (x + k) + g (x + 2 * off - k))) off
      ≡ sum_to (λ (k : ℕ). tap ker k * g (x + k) + tap ker (2 * off - k) * g (x + (2 * off - k))) off =
      sum_ext _ _ off (λ k l. pair k l) in
      let whole = sum_fold (λ (k : ℕ). tap ker k * g (x + k)) off in
      omega (arith, pairs, rw (← r.odd) at whole)
    where
      pair : (k : ℕ) → k < length ker / 2
          → tap ker k * (g (x + k) + g (x + 2 * (length ker / 2) - k))
          ≡ tap ker k * g (x + k) + tap ker (2 * (length ker / 2) - k) * g (x + (2 * (length ker / 2) - k))
      pair k l =
          let odd = r.odd in
          let other : length ker - 1 - k ≡ 2 * (length ker / 2) - k = omega arith in
          let place : x + 2 * (length ker / 2) - k ≡ x + (2 * (length ker / 2) - k) = omega arith in
          rw (place, mul-add, rw other at (r.mirror k (omega arith)))

  -- over values of at most B they come to at most B times what all taps sum to
  across_le : (B : ℕ) → Kernel ker → ((k : ℕ) → k < length ker → g (x + k) ≤ B) → across_of ker g x ≤ B * fixed_total
  unfolding across_of
  across_le B r h =
      le_trans
      (sum_le _ (λ (k : ℕ). B * tap ker k) (length ker) (λ k l. rw (mul_comm B) (mul-le-mul_left (tap ker k) (h k l))))
      (rw (sum_mul (tap ker) B (length ker)) (mul-le-mul_left B r.light))

  -- and so do some of the pairs
  folded_le : (B k : ℕ) → Kernel ker → ((i : ℕ) → i < length ker → g (x + i) ≤ B) → k ≤ length ker / 2 → folded_of ker g x k ≤ B * fixed_total
  unfolding folded_of
  folded_le B k r h l =
      let all = folded_all r in
      let grows = sum_mono (λ (j : ℕ). tap ker j * (g (x + j) + g (x + 2 * (length ker / 2) - j))) k (length ker / 2) l in
      omega (arith, all, grows, across_le B r h)

-- five at once, over values of at most 2 ^ 50
module _ (ker : List ℕ) (g : ℕ → ℕ → ℕ) (x : ℕ) where
  pub folds_none : folds_of ker g x 0 ≡ tapped_of (five_sums_of (λ (m : ℕ). 0)) (tap ker (length ker / 2)) (λ (m : ℕ). g m (x + length ker / 2))
  unfolding folds_of
  folds_none = five_ext _ (λ (m : ℕ). 0 + tap ker (length ker / 2) * g m (x + length ker / 2)) (λ m. folded_none ker (g m) x)

  pub folds_more : (k : ℕ)
      → folds_of ker g x (k + 1) ≡ tapped_of (folds_of ker g x k) (tap ker k) (λ (m : ℕ). g m (x + k) + g m (x + 2 * (length ker / 2) - k))
  unfolding folds_of
  folds_more k =
      five_ext _ (λ (m : ℕ). folded_of ker (g m) x k + tap ker k * (g m (x + k) + g m (x + 2 * (length ker / 2) - k)))
      (λ m. folded_more ker (g m) x k)

  pub folds_all : Kernel ker → folds_of ker g x (length ker / 2) ≡ five_sums_of (λ (m : ℕ). across_of ker (g m) x)
  unfolding folds_of
  folds_all r = five_ext _ _ (λ m. folded_all ker (g m) x r)

  module _ (r : Kernel ker) (small : (m : ℕ) → m < 5 → (k : ℕ) → k < length ker → g m (x + k) ≤ 2 ^ 50) where
    low : {v : ℕ} → v ≤ (2 ^ 50) * fixed_total → v < 2 ^ 64
    low l = omega (arith, row_room)

    pub middle_room : Room (five_sums_of (λ (m : ℕ). 0)) (tap ker (length ker / 2)) (λ (m : ℕ). g m (x + length ker / 2))
    middle_room =
        nth_of (λ (m v : ℕ). v + tap ker (length ker / 2) * g m (x + length ker / 2) < 2 ^ 64) (λ (m : ℕ). 0)
        (λ m l. low (rw (folded_none ker (g m) x) at (folded_le ker (g m) x (2 ^ 50) 0 r (small m l) (omega arith))))

    pub folds_room : (t : FiveSums) (k : ℕ) → t ≡ folds_of ker g x k → k < length ker / 2
        → Room t (tap ker k) (λ (m : ℕ). g m (x + k) + g m (x + 2 * (length ker / 2) - k))
    unfolding folds_of
    folds_room t k e l =
        rw e (nth_of (λ (m v : ℕ). v + tap ker k * (g m (x + k) + g m (x + 2 * (length ker / 2) - k)) < 2 ^ 64)
        (λ (m : ℕ). folded_of ker (g m) x k)
        (λ m q. low (rw (folded_more ker (g m) x k) at (folded_le ker (g m) x (2 ^ 50) (k + 1) r (small m q) (omega arith)))))

-- what the loop over the folded taps rests on
pub ruleset folded_steps = (folds_none, folds_more)

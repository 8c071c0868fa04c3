-- The double sum of Moments is a window along the row of the windows down the columns. Assumes nothing.
use mathlib.Core.Path.{◌≡◌, refl, sym, ap, ◌∙◌}
use mathlib.Core.List.{List}
use Prim.Native.Nat.{ℕ, ◌+◌, ◌-◌, ◌*◌, ◌/◌, ◌<◌}
use native.Mathlib.Nat.{mul_assoc, mul-zero, mul_left_comm}
use native.Mathlib.Decide.{dec_lt}
use native.Mathlib.Omega.{arith}
use lib.ListN.{length}
use Rattle.plane.specs.Sums.{sum_to}
use Rattle.plane.proofs.Sums.{sum_ext, sum_mul, sum_zero, sum_swap}
use Rattle.kernel.specs.Kernel.{tap}
use Rattle.window.specs.Moments.{clipped, moment_at, w_at}
use Rattle.window.specs.Inner.Parts.{part_of, window_of, weight_of}
use Rattle.window.proofs.Sums.Windows.{clipped_in, clipped_below, clipped_above, clipped_both, window_same}

module _ (off side : ℕ) (j : ℕ) where
  -- what is outside counts 0 in every term
  clipped_sum : (n : ℕ) (F : ℕ → ℕ → ℕ) → clipped off side (λ (r : ℕ). sum_to (F r) n) j ≡ sum_to (λ (k : ℕ). clipped off side (λ (r : ℕ). F r k) j) n
  clipped_sum n F = go (dec_lt j off) (dec_lt j (off + side))
    where
      go : Dec (j < off) → Dec (j < off + side)
          → clipped off side (λ (r : ℕ). sum_to (F r) n) j ≡ sum_to (λ (k : ℕ). clipped off side (λ (r : ℕ). F r k) j) n
      go (yes l) d = clipped_below off side _ j l ∙ sym (sum_zero _ n (λ k m. clipped_below off side _ j l))
      go (no l) (no m) = clipped_above off side _ j (omega arith) ∙ sym (sum_zero _ n (λ k i. clipped_above off side _ j (omega arith)))
      go (no l) (yes m) =
          clipped_in off side _ j (omega arith) m ∙ sum_ext _ _ n (λ k i. sym (clipped_in off side (λ (r : ℕ). F r k) j (omega arith) m))

  clipped_mul : (c : ℕ) (f : ℕ → ℕ) → clipped off side (λ (r : ℕ). c * f r) j ≡ c * clipped off side f j
  clipped_mul c f = clipped_both (λ (u v : ℕ). u ≡ c * v) off side (λ (r : ℕ). c * f r) f j (sym (mul-zero c)) (λ l m. refl)

-- a side at a time, in either order
clipped_swap : (off width height : ℕ) (v : ℕ → ℕ → ℕ) (x y : ℕ)
    → clipped off width (λ (c : ℕ). clipped off height (λ (r : ℕ). v r c) y) x ≡ clipped off height (λ (r : ℕ). clipped off width (v r) x) y
clipped_swap off width height v x y = go (dec_lt x off) (dec_lt x (off + width))
  where
    all_zero : ((r : ℕ) → clipped off width (v r) x ≡ 0) → clipped off height (λ (r : ℕ). clipped off width (v r) x) y ≡ 0
    all_zero h = clipped_both (λ (u w : ℕ). u ≡ 0) off height _ (λ (r : ℕ). 0) y refl (λ l m. h _)

    go : Dec (x < off) → Dec (x < off + width)
        → clipped off width (λ (c : ℕ). clipped off height (λ (r : ℕ). v r c) y) x ≡ clipped off height (λ (r : ℕ). clipped off width (v r) x) y
    go (yes l) d = clipped_below off width _ x l ∙ sym (all_zero (λ r. clipped_below off width (v r) x l))
    go (no l) (no m) = clipped_above off width _ x (omega arith) ∙ sym (all_zero (λ r. clipped_above off width (v r) x (omega arith)))
    go (no l) (yes m) =
        clipped_in off width _ x (omega arith) m
        ∙ clipped_both (λ (u w : ℕ). u ≡ w) off height _ _ y refl (λ a b. sym (clipped_in off width (v (y - off)) x (omega arith) m))

pub separable : (ker : List ℕ) (width height : ℕ) (v : ℕ → ℕ → ℕ) (x y : ℕ)
    → window_of ker width (λ (c : ℕ). window_of ker height (λ (r : ℕ). v r c) y) x ≡ moment_at ker width height v x y
unfolding part_of moment_at
separable ker width height v x y =
    sum_ext _ _ n (λ j l.
    ap (λ (s : ℕ). tap ker j * s) (clipped_sum off width (x + j) n _)
    ∙ sym (sum_mul _ (tap ker j) n)
    ∙ sum_ext _ _ n (λ i m.
    ap (λ (s : ℕ). tap ker j * s) (clipped_mul off width (x + j) (tap ker i) _)
    ∙ ap (λ (s : ℕ). tap ker j * (tap ker i * s)) (clipped_swap off width height v (x + j) (y + i))
    ∙ mul_left_comm (tap ker j) (tap ker i) _ ∙ sym (mul_assoc (tap ker i) (tap ker j) _)))
    ∙ sum_swap _ n n
  where
    n : ℕ
    n = length ker

    off : ℕ
    off = length ker / 2

-- the weight at a centre is the weight of its rows times that of its columns
pub weights : (ker : List ℕ) (width height : ℕ) (a b : ℕ → ℕ → ℕ) (x y : ℕ)
    → weight_of ker height y * weight_of ker width x ≡ w_at ker width height a b x y
weights ker width height a b x y =
    sym (window_same ker width x (weight_of ker height y)) ∙ separable ker width height (λ (r c : ℕ). 1) x y

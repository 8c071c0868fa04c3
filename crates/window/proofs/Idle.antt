-- Idle taps change no sum: a kernel with taps of 0 more at both ends has the moments that it has without them. Assumes nothing.
use mathlib.Core.Path.{◌≡◌, refl, ◌∙◌}
use mathlib.Core.List.{List}
use Prim.Native.Nat.{ℕ, ◌+◌, ◌-◌, ◌*◌, ◌/◌, ◌<◌}
use native.Mathlib.Nat.{mul-zero, zero-mul}
use native.Mathlib.Decide.{dec_lt}
use native.Mathlib.Omega.{arith}
use lib.ListN.{length}
use Rattle.plane.proofs.Sums.{sum_zero, sum_ext}
use Rattle.kernel.proofs.Idle.{padded, padded_length, padded_tap, padded_sum}
use Rattle.window.specs.Moments.{clipped, seen_at, moment_at, moments_at}
use Rattle.window.proofs.Sums.Windows.{clipped_in, clipped_below, clipped_above, clipped_both}

-- what is seen does not change where place and middle move alike
clipped_moved : (k off side : ℕ) (f : ℕ → ℕ) (j : ℕ) → clipped (k + off) side f (k + j) ≡ clipped off side f j
clipped_moved k off side f j = go (dec_lt j off) (dec_lt j (off + side))
  where
    go : Dec (j < off) → Dec (j < off + side) → clipped (k + off) side f (k + j) ≡ clipped off side f j
    go (yes l) d = rw (clipped_below (k + off) side f (k + j) (omega arith), clipped_below off side f j l)
    go (no n) (no m) = rw (clipped_above (k + off) side f (k + j) (omega arith), clipped_above off side f j (omega arith))
    go (no n) (yes m) =
        let same : k + j - (k + off) ≡ j - off = omega arith in
        rw (clipped_in (k + off) side f (k + j) (omega arith) (omega arith), clipped_in off side f j (omega arith) m, same)

module _ (k : ℕ) (ker : List ℕ) (width height : ℕ) where
  seen_moved : (v : ℕ → ℕ → ℕ) (x y i j : ℕ) → seen_at (padded k ker) width height v (x + (k + j)) (y + (k + i)) ≡ seen_at ker width height v (x + j) (y + i)
  seen_moved v x y i j =
      let half : length (padded k ker) / 2 ≡ k + length ker / 2 = omega (arith, padded_length k ker) in
      let across : x + (k + j) ≡ k + (x + j) = omega arith in
      let down : y + (k + i) ≡ k + (y + i) = omega arith in
      rw (half, across, down)
      (clipped_moved k (length ker / 2) height (λ (r : ℕ). clipped (k + length ker / 2) width (v r) (k + (x + j))) (y + i)
      ∙ clipped_both (λ (p q : ℕ). p ≡ q) (length ker / 2) height (λ (r : ℕ). clipped (k + length ker / 2) width (v r) (k + (x + j)))
      (λ (r : ℕ). clipped (length ker / 2) width (v r) (x + j)) (y + i) refl
      (λ l m. clipped_moved k (length ker / 2) width (v (y + i - length ker / 2)) (x + j)))

  padded_moment : (v : ℕ → ℕ → ℕ) (x y : ℕ) → moment_at (padded k ker) width height v x y ≡ moment_at ker width height v x y
  unfolding moment_at
  padded_moment v x y =
      padded_sum k ker _ (λ i z. sum_zero _ _ (λ j l. rw (z, zero-mul, zero-mul)))
      ∙ sum_ext _ _ (length ker) (λ i l.
      padded_sum k ker _ (λ j z. rw (z, mul-zero, zero-mul))
      ∙ sum_ext _ _ (length ker) (λ j m. rw (padded_tap k ker i, padded_tap k ker j, seen_moved v x y i j)))

  pub padded_moments : (a b : ℕ → ℕ → ℕ) (x y : ℕ) → moments_at (padded k ker) width height a b x y ≡ moments_at ker width height a b x y
  padded_moments a b x y =
      rw (
        padded_moment a x y,
        padded_moment b x y,
        padded_moment (λ (r c : ℕ). a r c * a r c) x y,
        padded_moment (λ (r c : ℕ). a r c * b r c) x y,
        padded_moment (λ (r c : ℕ). b r c * b r c) x y,
        padded_moment (λ (r c : ℕ). 1) x y,
      )

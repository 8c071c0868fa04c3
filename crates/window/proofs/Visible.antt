-- The sums know nothing of what lies outside the plane: views that show the same inside it have the same sums. Assumes nothing.
use mathlib.Core.Path.{◌≡◌, refl, ap}
use mathlib.Core.List.{List}
use Prim.Native.Nat.{ℕ, ◌+◌, ◌-◌, ◌*◌, ◌/◌, ◌≤◌, ◌<◌}
use native.Mathlib.Omega.{arith}
use lib.ListN.{length}
use Rattle.plane.proofs.Sums.{sum_ext}
use Rattle.kernel.specs.Kernel.{tap}
use Rattle.window.specs.Moments.{clipped, moment_at, moments_at}
use Rattle.window.proofs.Sums.Windows.{clipped_both}

abbrev pub Same : ℕ → ℕ → (ℕ → ℕ → ℕ) → (ℕ → ℕ → ℕ) → Type 0
Same width height v w = (r c : ℕ) → r < height → c < width → v r c ≡ w r c

-- the same in the rows that a window about row y reaches
abbrev pub SameNear : List ℕ → ℕ → ℕ → ℕ → (ℕ → ℕ → ℕ) → (ℕ → ℕ → ℕ) → Type 0
SameNear ker width height y v w =
    (r c : ℕ) → r < height → c < width → y ≤ r + length ker / 2 → r ≤ y + length ker / 2 → v r c ≡ w r c

module _ (ker : List ℕ) (width height : ℕ) where
  moment_near : (v w : ℕ → ℕ → ℕ) (x y : ℕ) → SameNear ker width height y v w → moment_at ker width height v x y ≡ moment_at ker width height w x y
  unfolding moment_at
  moment_near v w x y h =
      sum_ext _ _ (length ker) (λ (i : ℕ) (k : i < length ker).
      sum_ext _ _ (length ker) (λ j l.
      ap (λ (u : ℕ). tap ker i * tap ker j * u)
      (clipped_both (λ (p q : ℕ). p ≡ q) (length ker / 2) height (λ (r : ℕ). clipped (length ker / 2) width (v r) (x + j))
      (λ (r : ℕ). clipped (length ker / 2) width (w r) (x + j)) (y + i) refl (λ e f.
      clipped_both (λ (p q : ℕ). p ≡ q) (length ker / 2) width (v (y + i - length ker / 2)) (w (y + i - length ker / 2)) (x + j) refl (λ g m.
      h (y + i - length ker / 2) (x + j - length ker / 2) (omega arith) (omega arith) (omega arith) (omega arith))))))

  pub moments_near : (a a' b b' : ℕ → ℕ → ℕ) (x y : ℕ) → SameNear ker width height y a a' → SameNear ker width height y b b'
      → moments_at ker width height a b x y ≡ moments_at ker width height a' b' x y
  moments_near a a' b b' x y p q =
      simp (
        moment_near a a' x y p,
        moment_near b b' x y q,
        moment_near (λ (r c : ℕ). a r c * a r c) (λ (r c : ℕ). a' r c * a' r c) x y (λ r c k l n o. rw (p r c k l n o)),
        moment_near (λ (r c : ℕ). a r c * b r c) (λ (r c : ℕ). a' r c * b' r c) x y (λ r c k l n o. rw (p r c k l n o, q r c k l n o)),
        moment_near (λ (r c : ℕ). b r c * b r c) (λ (r c : ℕ). b' r c * b' r c) x y (λ r c k l n o. rw (q r c k l n o)),
      )

  -- so in all rows
  pub moments_ext : (a a' b b' : ℕ → ℕ → ℕ) → Same width height a a' → Same width height b b'
      → (x y : ℕ) → moments_at ker width height a b x y ≡ moments_at ker width height a' b' x y
  moments_ext a a' b b' p q x y = moments_near a a' b b' x y (λ r c k l _ _. p r c k l) (λ r c k l _ _. q r c k l)

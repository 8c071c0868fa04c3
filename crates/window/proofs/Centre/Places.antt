-- Moments: what a kernel place shows, how large a moment can be, how small the weight, and that the six moments at a centre have the
-- form of Cauchy and Schwarz. Assumes nothing.
use mathlib.Core.Path.{◌≡◌, ◌∙◌, subst⁻¹, fun_ext}
use mathlib.Core.List.{List}
use Prim.Native.Nat.{ℕ, ◌+◌, ◌-◌, ◌*◌, ◌/◌, ◌≤◌, ◌<◌}
use native.Mathlib.Nat.{mul-zero, mul-one, le_refl}
use native.Mathlib.Decide.{dec_lt}
use native.Mathlib.Omega.{arith}
use lib.ListN.{length}
use Rattle.plane.specs.Sums.{sum_to}
use Rattle.plane.proofs.Sums.{sum_term}
use Rattle.kernel.specs.Kernel.{tap}
use Rattle.window.specs.Moments.{clipped, seen_at, moment_at}
use Rattle.window.specs.Inner.Parts.{part_of, weight_of}
use Rattle.window.proofs.Sums.Windows.{clipped_in, clipped_below, clipped_above, part_below}
use Rattle.window.proofs.Centre.Separable.{separable}
use Rattle.window.proofs.Centre.Cauchy.{Gram, gram_point, gram_none, gram_sum}

-- ---- what a place shows

-- Along one side a place shows an index below `side`, the same of every f, or it is outside.
data Side (off side j : ℕ) : Type 0 where
  at : (k : ℕ) → k < side → ((f : ℕ → ℕ) → clipped off side f j ≡ f k) → Side off side j
  out : ((f : ℕ → ℕ) → clipped off side f j ≡ 0) → Side off side j

side_of : (off side j : ℕ) → Side off side j
side_of off side j = go (dec_lt j off) (dec_lt j (off + side))
  where
    go : Dec (j < off) → Dec (j < off + side) → Side off side j
    go (yes l) d = out (λ f. clipped_below off side f j l)
    go (no l) (yes m) = at (j - off) (omega arith) (λ f. clipped_in off side f j (omega arith) m)
    go (no l) (no m) = out (λ f. clipped_above off side f j (omega arith))

-- Two sides: it shows the same row and column of every view, or 0 of every view.
data Seen (ker : List ℕ) (width height x y : ℕ) : Type 0 where
  at : (r c : ℕ) → r < height → c < width → ((v : ℕ → ℕ → ℕ) → seen_at ker width height v x y ≡ v r c) → Seen ker width height x y
  out : ((v : ℕ → ℕ → ℕ) → seen_at ker width height v x y ≡ 0) → Seen ker width height x y

seen_of : (ker : List ℕ) (width height x y : ℕ) → Seen ker width height x y
seen_of ker width height x y = go (side_of (length ker / 2) height y) (side_of (length ker / 2) width x)
  where
    go : Side (length ker / 2) height y → Side (length ker / 2) width x → Seen ker width height x y
    go (out e) d = out (λ v. e _)
    go (at r l e) (at c m f) = at r c l m (λ v. e _ ∙ f _)
    go (at r l e) (out f) = out (λ v. e _ ∙ f _)

-- ---- moments

module _ (ker : List ℕ) where
  -- the middle tap stands at the centre itself
  pub weight_some : length ker / 2 < length ker → (side x : ℕ) → x < side → tap ker (length ker / 2) ≤ weight_of ker side x
  unfolding part_of
  weight_some n side x l =
      let e : clipped (length ker / 2) side (λ (i : ℕ). 1) (x + length ker / 2) ≡ 1 = clipped_in _ side _ _ (omega arith) (omega arith) in
      rw (e, mul-one) at (sum_term (λ (k : ℕ). tap ker k * clipped (length ker / 2) side (λ (i : ℕ). 1) (x + k)) _ _ n)

  -- the taps' sum, once for each direction
  pub moment_le : (width height : ℕ) (v : ℕ → ℕ → ℕ) (B : ℕ) → ((r c : ℕ) → r < height → c < width → v r c ≤ B) → (x y : ℕ)
      → moment_at ker width height v x y ≤ B * sum_to (tap ker) (length ker) * sum_to (tap ker) (length ker)
  moment_le width height v B h x y =
      rw (← separable ker width height v x y)
      (part_below ker width _ x _
      (λ j i k l. part_below ker height _ y B (λ i' j' k' l'. h _ _ (omega arith) (omega arith)) (length ker) (le_refl _)) (length ker) (le_refl _))

-- the six numbers that F makes of two views, as those of Cauchy and Schwarz
abbrev pub GramOf : (a b : ℕ → ℕ → ℕ) → ((ℕ → ℕ → ℕ) → ℕ) → Type 0
GramOf a b F =
    Gram (F (λ (r c : ℕ). 1)) (F a) (F b) (F (λ (r c : ℕ). a r c * a r c)) (F (λ (r c : ℕ). a r c * b r c)) (F (λ (r c : ℕ). b r c * b r c))

-- one place after another
pub moment_gram : (ker : List ℕ) (width height : ℕ) (a b : ℕ → ℕ → ℕ) (x y : ℕ) → GramOf a b (λ (v : ℕ → ℕ → ℕ). moment_at ker width height v x y)
unfolding moment_at
moment_gram ker width height a b x y = gram_sum _ _ _ _ _ _ (λ i. gram_sum _ _ _ _ _ _ (λ j. place (tap ker i * tap ker j) (seen_of ker width height (x + j) (y + i))) _) _
  where
    same : (t : ℕ) {F G : (ℕ → ℕ → ℕ) → ℕ} → ((v : ℕ → ℕ → ℕ) → F v ≡ G v) → GramOf a b (λ (v : ℕ → ℕ → ℕ). t * G v) → GramOf a b (λ (v : ℕ → ℕ → ℕ). t * F v)
    same t e g = subst⁻¹ (λ (F : (ℕ → ℕ → ℕ) → ℕ). GramOf a b (λ (v : ℕ → ℕ → ℕ). t * F v)) (fun_ext e) g

    place : (t : ℕ) {x y : ℕ} → Seen ker width height x y → GramOf a b (λ (v : ℕ → ℕ → ℕ). t * seen_at ker width height v x y)
    place t (at r c l m e) = same t e (rw mul-one (gram_point t (a r c) (b r c)))
    place t (out e) = same t e (rw mul-zero gram_none)

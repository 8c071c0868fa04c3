-- The third demand at the five scales: no scale of accepted planes is empty, and the samples k scales below the first are at most
-- sample_max × 4^k, so the laws of the window's sums hold at every centre of every scale. Assumes nothing.
use mathlib.Core.Path.{◌≡◌, refl, sym, ◌∙◌}
use mathlib.Core.Bool.{Bool, true}
use Prim.Native.Nat.{ℕ, zero, suc, ◌*◌, ◌^◌, ◌≤◌, ◌<◌}
use native.Mathlib.Nat.{le_trans, pow-suc, mul-one, pow-le-pow_right, le_refl, mul-le-mul}
use native.Mathlib.Omega.{arith}
use lib.Dec.{lit≤, lit<}
use lib.ListN.{get_or}
use Rattle.plane.specs.Limits.{most_depth}
use Rattle.plane.specs.Plane.{Planes, max_of}
use Rattle.plane.specs.Inner.Lawful.{AcceptedPair}
use Rattle.plane.proofs.Limits.{deepest}
use Rattle.plane.proofs.Depth.{max_grows}
use Rattle.kernel.specs.Kernel.{fixed_kernel, fixed_total}
use Rattle.kernel.proofs.Says.{fixed_lawful}
use Rattle.window.specs.Moments.{most_sample}
use Rattle.window.proofs.Demand.{BoundedView, Demanded, demanded}
use Rattle.downscale.proofs.Summed.{summed_most}
use Rattle.ssim.specs.declared.Ssim.{Ssim}
use Rattle.msssim.specs.Scale.{Scale, scale_count, below_of, scale_totals, mean_pair, pairs_from}
use Rattle.msssim.specs.Answer.{least_side, first_scale}

-- ---- how large samples grow
-- the largest sample k scales below the first: each is made by summing 2×2 samples
unfoldable pub scale_max : ℕ → ℕ → ℕ
scale_max depth k = max_of depth * 4 ^ k

pub scale_fits : (wide : Bool) (depth k : ℕ) → depth ≤ most_depth wide → k < scale_count → scale_max depth k ≤ most_sample
unfolding scale_max scale_count most_sample most_depth max_of
scale_fits wide depth k d l =
    let few : k ≤ 4 = omega arith in
    let most : depth ≤ most_depth true = le_trans d (deepest wide) in
    le_trans (mul-le-mul (max_grows most) (pow-le-pow_right {n = 4} (lit< tt) few)) (lit≤ tt)

-- ---- k scales below a scale
unfoldable pub scale_at : Scale → ℕ → Scale
scale_at s zero = s
scale_at s (suc k) = scale_at (below_of s) k

-- no sample of either plane is above the scale's largest
abbrev Small : Scale → Type 0
Small s = BoundedView s.max s.width s.height s.a × BoundedView s.max s.width s.height s.b

below_small : (k : ℕ) (s : Scale) → Small s → Small (scale_at s k)
unfolding scale_at
below_small zero s h = h
below_small (suc k) s h = below_small k (below_of s) (summed_most _ _ _ s.a h.0, summed_most _ _ _ s.b h.1)

scale_max_lem : (k : ℕ) (s : Scale) → (scale_at s k).max ≡ s.max * 4 ^ k
unfolding scale_at
scale_max_lem zero s = sym (mul-one s.max)
scale_max_lem (suc k) s = scale_max_lem k (below_of s) ∙ rw (pow-suc 4 k) (omega arith)

-- sides of 2^k are left with 1
scale_sides : (k : ℕ) (s : Scale) → 2 ^ k ≤ s.width → 2 ^ k ≤ s.height → (1 ≤ (scale_at s k).width) × (1 ≤ (scale_at s k).height)
unfolding scale_at
scale_sides zero s w h = (w, h)
scale_sides (suc k) s w h = scale_sides k (below_of s) (omega (arith, w, pow-suc 2 k)) (omega (arith, h, pow-suc 2 k))

-- the pairs are those of these scales
pub pairs_at : (n k : ℕ) (s : Scale) (p : Ssim) → k < n → get_or (pairs_from n s) k p ≡ mean_pair (scale_totals (scale_at s k))
unfolding pairs_from scale_at
pairs_at zero k s p l = absurd (omega arith)
pairs_at (suc n) zero s p l = refl
pairs_at (suc n) (suc k) s p l = pairs_at n k (below_of s) p (omega arith)

-- ---- the five scales of two accepted planes
module _ (p : Planes) (k : ℕ) (c : AcceptedPair p least_side) where
  abbrev depth : ℕ
  depth = p.size.depth

  abbrev at_scale : Scale
  at_scale = scale_at (first_scale p) k

  -- each has a sample
  pub sides_stay : k < scale_count → (1 ≤ at_scale.width) × (1 ≤ at_scale.height)
  unfolding scale_count least_side
  sides_stay n =
      let few : k ≤ 4 = omega arith in
      let reach : 2 ^ k ≤ 2 ^ 4 = pow-le-pow_right {n = 2} (lit< tt) few in
      scale_sides k (first_scale p) (le_trans reach c.sized.width_reaches) (le_trans reach c.sized.height_reaches)

  -- no sample is above sample_max × 4^k
  pub samples_stay : (BoundedView (scale_max depth k) at_scale.width at_scale.height at_scale.a)
      × (BoundedView (scale_max depth k) at_scale.width at_scale.height at_scale.b)
  unfolding scale_max
  samples_stay =
      let first = first_scale p in
      rw (scale_max_lem k first) at (below_small k first (c.each.0.bounded.small, c.each.1.0.bounded.small))

  pub scale_sums : k < scale_count → (x y : ℕ) → x < at_scale.width → y < at_scale.height
      → Demanded fixed_kernel at_scale.width at_scale.height at_scale.a at_scale.b x y fixed_total (scale_max depth k)
  scale_sums n x y l m =
      demanded fixed_kernel at_scale.width at_scale.height at_scale.a at_scale.b x y fixed_total (scale_max depth k) fixed_lawful (le_refl fixed_total)
      (scale_fits p.size.wide depth k c.sized.depth_most n) samples_stay.0 samples_stay.1 l m

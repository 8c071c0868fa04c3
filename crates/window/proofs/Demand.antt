-- Demand 3: laws of the sums of Moments, for every lawful kernel, every pair of views and every centre. The kernel's total is a
-- parameter, so that they speak of lent kernels (`lent_sums`) and of the fixed one (`scale_sums` of `msssim`) alike. Assumes nothing.
use mathlib.Core.Path.{◌≡◌, refl}
use mathlib.Core.Bool.{Bool, true, false}
use mathlib.Core.List.{List}
use Prim.Native.Nat.{ℕ, ◌*◌, ◌/◌, ◌^◌, ◌≤◌, ◌<◌}
use native.Mathlib.Nat.{mul_comm, mul_assoc, mul-one, mul-le-mul, le_trans, le_refl, lt_of_le_of_lt, one-le-mul}
use native.Mathlib.Omega.{arith}
use lib.Dec.{lit<, lit≤}
use lib.IntN.{pos, ◌-ℤ◌, ◌*ℤ◌}
use lib.ListN.{length}
use lib.Signed.{◌≤ℤ◌}
use Rattle.plane.specs.Limits.{most_depth}
use Rattle.plane.specs.Plane.{Planes, max_of, sample_at}
use Rattle.plane.specs.Inner.Lawful.{AcceptedPair}
use Rattle.plane.proofs.Depth.{max_grows}
use Rattle.kernel.specs.Kernel.{lent_total, fixed_total, lawful}
use Rattle.window.specs.Moments.{moment_at, mux_at, muy_at, x2_at, xy_at, y2_at, w_at, most_sample}
use Rattle.kernel.proofs.Says.{kernel_says, lent_total_lem}
use Rattle.window.proofs.Centre.Separable.{weights}
use Rattle.window.proofs.Centre.Cauchy.{first_le, second_le, signed_le}
use Rattle.window.proofs.Centre.Places.{moment_le, weight_some, moment_gram}

-- ---- the laws

-- no sample of a view is above B, at the places inside the plane
abbrev pub BoundedView : ℕ → ℕ → ℕ → (ℕ → ℕ → ℕ) → Type 0
BoundedView B width height v = (r c : ℕ) → r < height → c < width → v r c ≤ B

module _ (ker : List ℕ) (width height : ℕ) (a b : ℕ → ℕ → ℕ) (x y : ℕ) where
  abbrev mux : ℕ
  mux = mux_at ker width height a b x y

  abbrev muy : ℕ
  muy = muy_at ker width height a b x y

  abbrev x2 : ℕ
  x2 = x2_at ker width height a b x y

  abbrev xy : ℕ
  xy = xy_at ker width height a b x y

  abbrev y2 : ℕ
  y2 = y2_at ker width height a b x y

  abbrev w : ℕ
  w = w_at ker width height a b x y

  -- at a centre inside the plane the weight is at least 1
  pub weight_least : (total : ℕ) → lawful total ker ≡ true → x < width → y < height → 1 ≤ w
  weight_least total ok l m =
      let says = kernel_says total ker ok in
      let half : length ker / 2 < length ker = omega (arith, says.odd) in
      rw (← weights ker width height a b x y)
      (one-le-mul (le_trans says.middle (weight_some ker half height y m)) (le_trans says.middle (weight_some ker half width x l)))

  -- with no sample above B, no sum is above the square of the kernel's total times what is summed
  pub record Most (total B : ℕ) : Type 0 where
    pub mux_most : mux ≤ total * total * B
    pub muy_most : muy ≤ total * total * B
    pub x2_most : x2 ≤ total * total * (B * B)
    pub xy_most : xy ≤ total * total * (B * B)
    pub y2_most : y2 ≤ total * total * (B * B)
    pub w_most : w ≤ total * total

  sums_most : (total B : ℕ) → lawful total ker ≡ true → BoundedView B width height a → BoundedView B width height b → Most total B
  sums_most total B ok h k =
      record {
        mux_most = most a B h;
        muy_most = most b B k;
        x2_most = most _ (B * B) (λ r c l m. mul-le-mul (h r c l m) (h r c l m));
        xy_most = most _ (B * B) (λ r c l m. mul-le-mul (h r c l m) (k r c l m));
        y2_most = most _ (B * B) (λ r c l m. mul-le-mul (k r c l m) (k r c l m));
        w_most = rw mul-one at (most (λ (r c : ℕ). 1) 1 (λ r c l m. le_refl 1));
      }
    where
      most : (v : ℕ → ℕ → ℕ) (C : ℕ) → BoundedView C width height v → moment_at ker width height v x y ≤ total * total * C
      most v C bounded =
          rw (mul_comm (total * total) C, ← mul_assoc C total total) (rw (kernel_says total ker ok).sum at (moment_le ker width height v C bounded x y))

  -- no sum leaves 64 signed bits
  pub record Fit : Type 0 where
    pub mux_fits : mux < 2 ^ 63
    pub muy_fits : muy < 2 ^ 63
    pub x2_fits : x2 < 2 ^ 63
    pub xy_fits : xy < 2 ^ 63
    pub y2_fits : y2 < 2 ^ 63
    pub w_fits : w < 2 ^ 63

  pub sums_fit : (total B : ℕ) → lawful total ker ≡ true → total ≤ fixed_total → B ≤ most_sample → BoundedView B width height a → BoundedView B width height b → Fit
  unfolding most_sample fixed_total
  sums_fit total B ok t s h k =
      let most = sums_most total B ok h k in
      let small : B ≤ most_sample * most_sample = le_trans s (lit≤ tt) in
      let square : B * B ≤ most_sample * most_sample = mul-le-mul s s in
      record {
        mux_fits = fits B small most.mux_most;
        muy_fits = fits B small most.muy_most;
        x2_fits = fits (B * B) square most.x2_most;
        xy_fits = fits (B * B) square most.xy_most;
        y2_fits = fits (B * B) square most.y2_most;
        w_fits = fits 1 (lit≤ tt) (rw mul-one most.w_most);
      }
    where
      fits : (C : ℕ) {s : ℕ} → C ≤ most_sample * most_sample → s ≤ total * total * C → s < 2 ^ 63
      fits C c l = lt_of_le_of_lt (le_trans l (mul-le-mul (mul-le-mul t t) c)) (lit< tt)

  -- exchanging the views exchanges mux with muy and x2 with y2, and keeps xy and w
  pub record Exchanged : Type 0 where
    pub mux_swaps : mux_at ker width height b a x y ≡ muy
    pub muy_swaps : muy_at ker width height b a x y ≡ mux
    pub x2_swaps : x2_at ker width height b a x y ≡ y2
    pub y2_swaps : y2_at ker width height b a x y ≡ x2
    pub xy_stays : xy_at ker width height b a x y ≡ xy
    pub w_stays : w_at ker width height b a x y ≡ w

  pub swap : Exchanged
  swap = record { mux_swaps = refl; muy_swaps = refl; x2_swaps = refl; y2_swaps = refl; xy_stays = simp mul_comm; w_stays = refl }

  -- Cauchy and Schwarz: mux² ≤ w·x2, muy² ≤ w·y2 and (w·xy - mux·muy)² ≤ (w·x2 - mux²)(w·y2 - muy²), the last over the integers
  pub record Schwarz : Type 0 where
    pub mux_square : mux * mux ≤ w * x2
    pub muy_square : muy * muy ≤ w * y2
    pub mixed_square : ((pos (w * xy) -ℤ pos (mux * muy)) *ℤ (pos (w * xy) -ℤ pos (mux * muy))) ≤ℤ ((pos (w * x2) -ℤ pos (mux * mux)) *ℤ (pos (w * y2) -ℤ pos (muy * muy)))

  pub cauchy_schwarz : (total : ℕ) → lawful total ker ≡ true → x < width → y < height → Schwarz
  cauchy_schwarz total ok l m =
      let some = weight_least total ok l m in
      let gram = moment_gram ker width height a b x y in
      record {
        mux_square = first_le w mux muy x2 xy y2 some gram;
        muy_square = second_le w mux muy x2 xy y2 some gram;
        mixed_square = signed_le w mux muy x2 xy y2 some gram;
      }

  -- all of demand 3 at one centre, for a kernel of this total and samples of at most B
  pub record Demanded (total B : ℕ) : Type 0 where
    pub weight : 1 ≤ w
    pub most : Most total B
    pub fit : Fit
    pub exchanged : Exchanged
    pub schwarz : Schwarz

  pub demanded : (total B : ℕ) → lawful total ker ≡ true → total ≤ fixed_total → B ≤ most_sample → BoundedView B width height a → BoundedView B width height b
      → x < width → y < height → Demanded total B
  demanded total B ok t s h k l m =
      record {
        weight = weight_least total ok l m;
        most = sums_most total B ok h k;
        fit = sums_fit total B ok t s h k;
        exchanged = swap;
        schwarz = cauchy_schwarz total ok l m;
      }

-- ---- lent kernels

-- planes of either width stay below what fits
pub plane_small : (wide : Bool) (depth : ℕ) → depth ≤ most_depth wide → max_of depth ≤ most_sample
unfolding most_depth max_of most_sample
plane_small true depth l = le_trans (max_grows l) (lit≤ tt)
plane_small false depth l = le_trans (max_grows l) (lit≤ tt)

-- a lent kernel, over two accepted planes of either width
pub lent_sums : (p : Planes) (least : ℕ) → AcceptedPair p least
    → (ker : List ℕ) → lawful lent_total ker ≡ true → (x y : ℕ) → x < p.size.width → y < p.size.height
    → Demanded ker p.size.width p.size.height (sample_at p.a) (sample_at p.b) x y lent_total (max_of p.size.depth)
lent_sums p least c ker ok x y l m =
    let size = p.size in
    demanded ker size.width size.height _ _ x y lent_total (max_of size.depth) ok lent_total_lem
    (plane_small size.wide size.depth c.sized.depth_most)
    c.each.0.bounded.small
    c.each.1.0.bounded.small
    l
    m

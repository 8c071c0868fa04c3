-- SCOPE, "HVS, SSIM and scales": the double steps of `calculate_plane_ssim_internal`, each rounded once, in its order, row by
-- row over every centre. Names are those of the Rust. Definitions only.
use Rattle.std.specs.Prelude.{List, ℕ, Float}
use Rattle.std.specs.Float.{binary64}
use Rattle.std.specs.Float.Ieee.{of_bits}
use Rattle.number.specs.Literals.{zero_d, two_d}
use Rattle.number.specs.Steps.{◌⊕◌, ◌⊖◌, ◌⊗◌, ◌⊘◌, double, fold_to}
use Rattle.plane.specs.Plane.{Planes, sample_at}
use Rattle.window.specs.Moments.{moments_at}
use Rattle.window.specs.declared.Moments.{Moments}
use Rattle.ssim.specs.declared.Totals.{Totals}

-- SSIM_K1 = 0.01 * 0.01, SSIM_K2 = 0.03 * 0.03
abbrev pub k1 : Float
k1 = of_bits binary64 0x3F1A36E2EB1C432D

abbrev pub k2 : Float
k2 = of_bits binary64 0x3F4D7DBF487FCB92

-- ---- at one centre; max2 is sample_max.pow(2) as f64
module _ (max2 : Float) (moments : Moments) where
  abbrev pub w_of : Float
  w_of = double moments.w

  abbrev pub c1_of : Float
  c1_of = max2 ⊗ k1 ⊗ (w_of ⊗ w_of)

  abbrev pub c2_of : Float
  c2_of = max2 ⊗ k2 ⊗ (w_of ⊗ w_of)

  abbrev pub mx2_of : Float
  mx2_of = double moments.mux ⊗ double moments.mux

  abbrev pub mxy_of : Float
  mxy_of = double moments.mux ⊗ double moments.muy

  abbrev pub my2_of : Float
  my2_of = double moments.muy ⊗ double moments.muy

  -- cs_tmp
  abbrev pub cs_of : Float
  cs_of =
      w_of ⊗ (c2_of ⊕ two_d ⊗ (double moments.xy ⊗ w_of ⊖ mxy_of))
      ⊘ (double moments.x2 ⊗ w_of ⊖ mx2_of ⊕ double moments.y2 ⊗ w_of ⊖ my2_of ⊕ c2_of)

-- one centre more: cs += .., ssim += .., ssimw += ..
unfoldable pub with_centre : Float → Totals → Moments → Totals
with_centre max2 t m =
    record {
      cs = t.cs ⊕ cs_of max2 m;
      ssim = t.ssim ⊕ cs_of max2 m ⊗ (two_d ⊗ mxy_of max2 m ⊕ c1_of max2 m) ⊘ (mx2_of max2 m ⊕ my2_of max2 m ⊕ c1_of max2 m);
      ssimw = t.ssimw ⊕ w_of max2 m;
    }

-- ---- over the centres

-- n centres of a row, whose moments are g 0, g 1, ..
abbrev pub row_of : Float → (ℕ → Moments) → Totals → ℕ → Totals
row_of max2 g t n = fold_to (λ (s : Totals) (x : ℕ). with_centre max2 s (g x)) t n

-- before the first
abbrev pub no_totals : Totals
no_totals = record { ssim = zero_d; cs = zero_d; ssimw = zero_d }

-- the first n rows of centres of two views
unfoldable pub totals_of : Float → List ℕ → ℕ → ℕ → (ℕ → ℕ → ℕ) → (ℕ → ℕ → ℕ) → ℕ → Totals
totals_of max2 ker width height a b n =
    fold_to (λ (s : Totals) (y : ℕ). row_of max2 (λ (x : ℕ). moments_at ker width height a b x y) s width) no_totals n

-- of two planes
abbrev pub totals_in : Float → List ℕ → Planes → ℕ → Totals
totals_in max2 ker p n = totals_of max2 ker p.size.width p.size.height (sample_at p.a) (sample_at p.b) n

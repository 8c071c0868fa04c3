-- The sums of `window`'s Moments on the way: one kernel place, and the first places of a row of the kernel, and its first rows. What they
-- come to is `moments_at` itself. Definitions only.
use Rattle.std.specs.Prelude.{Bool, ◌&&◌, List, ℕ, ◌+◌, ◌*◌, ◌<◌, ◌^◌, leb, ltb, length}
use Rattle.plane.specs.Sums.{sum_to}
use Rattle.kernel.specs.Kernel.{tap}
use Rattle.window.specs.Moments.{seen_at}
use Rattle.window.specs.declared.Moments.{Moments}

-- ---- of one view

module _ (ker : List ℕ) (width height : ℕ) (x y : ℕ) where
  -- what the kernel place (i, j) adds: what is seen there, weighed by the tap down and the tap across
  unfoldable pub place_of : ℕ → ℕ → (ℕ → ℕ → ℕ) → ℕ
  place_of i j v = tap ker i * tap ker j * seen_at ker width height v (x + j) (y + i)

  -- the first n places of row i of the kernel
  unfoldable pub row_to : ℕ → ℕ → (ℕ → ℕ → ℕ) → ℕ
  row_to i n v = sum_to (λ (j : ℕ). place_of i j v) n

  -- its first n rows, each of them whole
  unfoldable pub rows_to : ℕ → (ℕ → ℕ → ℕ) → ℕ
  rows_to n v = sum_to (λ (i : ℕ). row_to i (length ker) v) n

-- a place along one side lies inside it; j is x + k, as in `clipped`
abbrev pub inside_of : ℕ → ℕ → ℕ → Bool
inside_of off side j = leb off j && ltb j (off + side)

-- ---- the six

-- what F makes of the six views: a, b, a², ab, b² and 1
abbrev pub six_of : ((ℕ → ℕ → ℕ) → ℕ) → (ℕ → ℕ → ℕ) → (ℕ → ℕ → ℕ) → Moments
six_of F a b =
    record {
      mux = F a;
      muy = F b;
      x2 = F (λ (r c : ℕ). a r c * a r c);
      xy = F (λ (r c : ℕ). a r c * b r c);
      y2 = F (λ (r c : ℕ). b r c * b r c);
      w = F (λ (r c : ℕ). 1);
    }

-- of one pair of samples, weighed by k
abbrev pub weighed_of : ℕ → ℕ → ℕ → Moments
weighed_of k a b = record { mux = k * a; muy = k * b; x2 = k * a * a; xy = k * a * b; y2 = k * b * b; w = k }

-- one by one
abbrev pub plus_of : Moments → Moments → Moments
plus_of s t =
    record { mux = s.mux + t.mux; muy = s.muy + t.muy; x2 = s.x2 + t.x2; xy = s.xy + t.xy; y2 = s.y2 + t.y2; w = s.w + t.w }

abbrev pub no_moments : Moments
no_moments = record { mux = 0; muy = 0; x2 = 0; xy = 0; y2 = 0; w = 0 }

-- 64 bits hold each of them
pub record Fits (t : Moments) : Type 0 where
  pub mux_fits : t.mux < 2 ^ 64
  pub muy_fits : t.muy < 2 ^ 64
  pub x2_fits : t.x2 < 2 ^ 64
  pub xy_fits : t.xy < 2 ^ 64
  pub y2_fits : t.y2 < 2 ^ 64
  pub w_fits : t.w < 2 ^ 64

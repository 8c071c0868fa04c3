-- SCOPE, "HVS, SSIM and scales": at each centre, mux, muy, x2, xy, y2 and w are sums over kernel places inside the plane.
-- A view gives what stands at row r and column c: a plane's sample, or a product of two. Definitions only.
use Rattle.std.specs.Prelude.{cond, List, ℕ, ◌+◌, ◌-◌, ◌*◌, ◌/◌, ◌^◌, ltb, length}
use Rattle.plane.specs.Sums.{sum_to}
use Rattle.kernel.specs.Kernel.{tap}
use Rattle.window.specs.declared.Moments.{Moments}

-- the largest sample that the sums are made for: words are below it, and so are the summed samples of the five scales
unfoldable pub most_sample : ℕ
most_sample = 2 ^ 20

-- Along one side: place k of a kernel whose middle stands at x lies at x + k - off, off being half the count of taps. f there, where
-- that is inside, and 0 outside; j is x + k.
unfoldable pub clipped : ℕ → ℕ → (ℕ → ℕ) → ℕ → ℕ
clipped off side f j = cond (ltb j off) 0 (cond (ltb j (off + side)) (f (j - off)) 0)

-- what a plane of these sides shows at the kernel place (x + j, y + i): v there, and 0 outside
abbrev pub seen_at : List ℕ → ℕ → ℕ → (ℕ → ℕ → ℕ) → ℕ → ℕ → ℕ
seen_at ker width height v x y = clipped (length ker / 2) height (λ (r : ℕ). clipped (length ker / 2) width (v r) x) y

-- the sum over all kernel places about the centre (x, y), each weighed by its tap down and its tap across
unfoldable pub moment_at : List ℕ → ℕ → ℕ → (ℕ → ℕ → ℕ) → ℕ → ℕ → ℕ
moment_at ker width height v x y =
    sum_to (λ (i : ℕ). sum_to (λ (j : ℕ). tap ker i * tap ker j * seen_at ker width height v (x + j) (y + i)) (length ker)) (length ker)

-- ---- the six, of two views a and b

module _ (ker : List ℕ) (width height : ℕ) (a b : ℕ → ℕ → ℕ) (x y : ℕ) where
  abbrev pub mux_at : ℕ
  mux_at = moment_at ker width height a x y

  abbrev pub muy_at : ℕ
  muy_at = moment_at ker width height b x y

  abbrev pub x2_at : ℕ
  x2_at = moment_at ker width height (λ (r c : ℕ). a r c * a r c) x y

  abbrev pub xy_at : ℕ
  xy_at = moment_at ker width height (λ (r c : ℕ). a r c * b r c) x y

  abbrev pub y2_at : ℕ
  y2_at = moment_at ker width height (λ (r c : ℕ). b r c * b r c) x y

  abbrev pub w_at : ℕ
  w_at = moment_at ker width height (λ (r c : ℕ). 1) x y

-- all six
abbrev pub moments_at : List ℕ → ℕ → ℕ → (ℕ → ℕ → ℕ) → (ℕ → ℕ → ℕ) → ℕ → ℕ → Moments
moments_at ker width height a b x y =
    record {
      mux = mux_at ker width height a b x y;
      muy = muy_at ker width height a b x y;
      x2 = x2_at ker width height a b x y;
      xy = xy_at ker width height a b x y;
      y2 = y2_at ker width height a b x y;
      w = w_at ker width height a b x y;
    }

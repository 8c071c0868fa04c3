-- SCOPE, "Numbers to hold it to": every number marked *, in its order, one row for each mark. `gives` is worked out from the
-- definitions that the contracts cite; `says` is what SCOPE says. proofs/Marked.antt shows that they agree. Definitions only.
use Rattle.std.specs.Prelude.{false, ◌≡◌, List, [], ◌∷◌, map, ℕ, ℤ, pos, negsuc, replicate, Result, Ok, Err}
use Rattle.refusal.specs.declared.Refusal.{Refusal}
use Rattle.plane.specs.Plane.{plane_of, size_of, planes_of, sample_at}
use Rattle.psnr.specs.Record.{whole_of}
use Rattle.psnr.specs.Squared.{squared_error_of}
use Rattle.psnr.specs.declared.SquaredError.{SquaredError}
use Rattle.psnr.specs.declared.SquaredError.TheVariants.{Differs, Identical}
use Rattle.lifting.specs.Steps.{half}
use Rattle.dct.specs.Block.{fdct8, rows, fdct8x8}
use Rattle.window.specs.Moments.{moments_at}
use Rattle.window.specs.declared.Moments.{Moments}
use Rattle.number.specs.Steps.{list_to}
use Rattle.psnr_hvs.specs.Score.{blocks_per_side}
use Rattle.msssim.specs.Scale.{Scale, below_of}
use Rattle.msssim.specs.Answer.{first_scale}

pub record Marked : Type 0 where
  pub gives : List ℤ
  pub says : List ℤ

-- each row gives what it says
abbrev pub Agree : List Marked → Type 0
Agree [] = Unit {0}
Agree (f ∷ fs) = (f.gives ≡ f.says) × Agree fs

-- numbers that have no sign, among those that have one
abbrev counts : List ℕ → List ℤ
counts = map pos

-- ---- how answers are read

-- the error that an answer tells; a refusal tells none
abbrev error_told : Result SquaredError Refusal → List ℤ
error_told (Ok (Differs r)) = pos (whole_of r.sq_err) ∷ []
error_told (Ok (Identical r)) = pos (whole_of r.sq_err) ∷ []
error_told (Err k) = []

-- of one row of three bytes beside another, the first plane of the first frame
abbrev error_of_three : List ℕ → List ℕ → List ℤ
error_of_three a b = error_told (squared_error_of (planes_of (size_of false 3 1 8) (plane_of a 3) (plane_of b 3)) 0 0)

-- the first plane of a scale, row by row
abbrev row_by_row : Scale → List ℤ
row_by_row s = rows (λ (r : ℕ). list_to (λ (c : ℕ). pos (s.a r c)) s.width) s.height

-- the scale below a plane of bytes with no padding
abbrev downscaled : ℕ → ℕ → List ℕ → List ℤ
downscaled width height samples =
    row_by_row (below_of (first_scale (planes_of (size_of false width height 8) (plane_of samples width) (plane_of samples width))))

-- mux, muy, x2, xy, y2, w
abbrev six : Moments → List ℤ
six m = counts (m.mux ∷ m.muy ∷ m.x2 ∷ m.xy ∷ m.y2 ∷ m.w ∷ [])

-- ---- the list

unfoldable pub marked : List Marked
marked =
    -- (10,20,30) and (13,20,26): 25
    record { gives = error_of_three (10 ∷ 20 ∷ 30 ∷ []) (13 ∷ 20 ∷ 26 ∷ []); says = pos 25 ∷ [] }
    -- equal planes: 0
    ∷ record { gives = error_of_three (10 ∷ 20 ∷ 30 ∷ []) (10 ∷ 20 ∷ 30 ∷ []); says = pos 0 ∷ [] }
    -- half(-3) = -1
    ∷ record { gives = half (negsuc 2) ∷ []; says = negsuc 0 ∷ [] }
    -- half(-1) = 0
    ∷ record { gives = half (negsuc 0) ∷ []; says = pos 0 ∷ [] }
    -- half(3) = 1
    ∷ record { gives = half (pos 3) ∷ []; says = pos 1 ∷ [] }
    -- eight 8s in one pass: 23 and seven zeros
    ∷ record { gives = fdct8 (replicate 8 (pos 8)); says = pos 23 ∷ replicate 7 (pos 0) }
    -- 1 and seven zeros: 1 1 1 0 1 0 0 0
    ∷ record { gives = fdct8 (pos 1 ∷ replicate 7 (pos 0)); says = counts (1 ∷ 1 ∷ 1 ∷ 0 ∷ 1 ∷ 0 ∷ 0 ∷ 0 ∷ []) }
    -- a block of 64 eights: 65, then 63 zeros
    ∷ record { gives = fdct8x8 (replicate 64 (pos 8)); says = pos 65 ∷ replicate 63 (pos 0) }
    -- 3×3 of 1 to 9 downscales to 12
    ∷ record { gives = downscaled 3 3 (1 ∷ 2 ∷ 3 ∷ 4 ∷ 5 ∷ 6 ∷ 7 ∷ 8 ∷ 9 ∷ []); says = pos 12 ∷ [] }
    -- blocks per side: 8→1, 14→1, 15→2, 22→3
    ∷ record { gives = counts (map blocks_per_side (8 ∷ 14 ∷ 15 ∷ 22 ∷ [])); says = counts (1 ∷ 1 ∷ 2 ∷ 3 ∷ []) }
    -- kernel 64 128 64, one row (10,20) and (10,30), at x = 0: mux 327,680, muy 409,600, x2 4,915,200, xy 6,553,600, y2 9,011,200,
    -- w 24,576
    ∷ record {
      gives = six (moments_at (64 ∷ 128 ∷ 64 ∷ []) 2 1 (sample_at (plane_of (10 ∷ 20 ∷ []) 2)) (sample_at (plane_of (10 ∷ 30 ∷ []) 2)) 0 0);
      says = counts (327680 ∷ 409600 ∷ 4915200 ∷ 6553600 ∷ 9011200 ∷ 24576 ∷ []);
    }
    ∷ []

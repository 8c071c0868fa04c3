-- SCOPE, "HVS, SSIM and scales", one block of 8 by 8 of each plane: the lines of `calculate_plane_psnr_hvs` inside its two loops,
-- in their order. Of what the Rust does for both planes at once, the definition says what it does for one. Definitions only.
use Rattle.std.specs.Prelude.{Bool, ◌&&◌, cond, List, ℕ, ◌+◌, ◌*◌, eqb, ℤ, pos, nat_abs, ◌-ℤ◌, ◌*ℤ◌, get_or, Float, Result}
use Rattle.std.specs.Result.{result_unwrap_or}
use Rattle.std.specs.Float.{nan, binary64}
use Rattle.std.specs.Float.Ieee.{of_int, lt}
use Rattle.refusal.specs.declared.Refusal.{Refusal}
use Rattle.number.specs.Root.{root_of}
use Rattle.number.specs.Steps.{◌⊕◌, ◌⊖◌, ◌⊗◌, ◌⊘◌, double, fold_to}
use Rattle.number.specs.Literals.{zero_d}
use Rattle.dct.specs.Limits.{block_side}
use Rattle.dct.specs.Block.{fdct8x8}
use Rattle.hvs_block.specs.Literals.{fifteen, sixteen, thirty_two, sixty_three, sixty_four}
use Rattle.hvs_block.specs.Tables.{entry}

-- place (i, j) of a block
abbrev pub cell : List ℤ → ℕ → ℕ → ℤ
cell b i j = get_or b (block_side * i + j) (pos 0)

-- a whole number of either sign as a double
abbrev pub signed : ℤ → Float
signed z = of_int binary64 z

module _ {A : Type 0} where
  -- the steps (i, j) of two loops of n turns each, one inside the other: row by row
  abbrev pub over_square : ℕ → (A → ℕ → ℕ → A) → A → A
  over_square n step a = fold_to (λ (s : A) (i : ℕ). fold_to (λ (t : A) (j : ℕ). step t i j) s n) a n

-- ---- means and variances, of the whole block and of its four quarters

-- the sum of f over a square of places: its first row and column, and its side
abbrev pub sum_over : ℕ → ℕ → ℕ → (ℕ → ℕ → Float) → Float
sum_over top left side f = over_square side (λ (s : Float) (i j : ℕ). s ⊕ f (top + i) (left + j)) zero_d

-- the square of a place's distance from m
abbrev pub squared_deviation : List ℤ → Float → ℕ → ℕ → Float
squared_deviation b m i j = (signed (cell b i j) ⊖ m) ⊗ (signed (cell b i j) ⊖ m)

-- gmean and gvar
unfoldable pub gmean : List ℤ → Float
gmean b = sum_over 0 0 block_side (λ (i j : ℕ). signed (cell b i j)) ⊘ sixty_four

unfoldable pub gvar : List ℤ → Float
gvar b = sum_over 0 0 block_side (squared_deviation b (gmean b)) ⊗ (sixty_four ⊘ sixty_three)

-- means[sub] and vars[sub]: a quarter by its first row and column
unfoldable pub mean : List ℤ → ℕ → ℕ → Float
mean b top left = sum_over top left 4 (λ (i j : ℕ). signed (cell b i j)) ⊘ sixteen

unfoldable pub var : List ℤ → ℕ → ℕ → Float
var b top left = sum_over top left 4 (squared_deviation b (mean b top left)) ⊗ (sixteen ⊘ fifteen)

-- vars.iter().sum(): sub counts the rows first, so the quarter below comes before the one to the right
unfoldable pub var_sum : List ℤ → Float
var_sum b = zero_d ⊕ var b 0 0 ⊕ var b 4 0 ⊕ var b 0 4 ⊕ var b 4 4

-- if gvar > 0.0 { gvar = vars.iter().sum() / gvar }
unfoldable pub ratio : List ℤ → Float
ratio b = cond (lt zero_d (gvar b)) (var_sum b ⊘ gvar b) (gvar b)

-- ---- the mask

-- the place of the DC term, which is neither masked nor counted into a mask
abbrev pub is_dc : ℕ → ℕ → Bool
is_dc i j = eqb i 0 && eqb j 0

-- the square of a coefficient, weighed, added to s
abbrev pub add_energy : List ℤ → List (List Float) → Float → ℕ → ℕ → Float
add_energy d mask s i j = cond (is_dc i j) s (s ⊕ signed (cell d i j *ℤ cell d i j) ⊗ entry mask i j)

unfoldable pub energy : List ℤ → List (List Float) → Float
energy d mask = over_square block_side (add_energy d mask) zero_d

-- .sqrt(): our root, and not-a-number where that is refused
abbrev pub root_or_nan : Result Float Refusal → Float
root_or_nan r = result_unwrap_or r nan

unfoldable pub mask_for : Float → Float → Float
mask_for e r = root_or_nan (root_of (e ⊗ r)) ⊘ thirty_two

-- if p2_mask > p1_mask { p1_mask = p2_mask }
unfoldable pub larger : Float → Float → Float
larger m1 m2 = cond (lt m1 m2) m2 m1

-- p1 and p2 are the blocks, d1 and d2 their coefficients
unfoldable pub mask_of_both : List ℤ → List ℤ → List ℤ → List ℤ → List (List Float) → Float
mask_of_both p1 p2 d1 d2 mask = larger (mask_for (energy d1 mask) (ratio p1)) (mask_for (energy d2 mask) (ratio p2))

-- ---- the error

-- (dct_p1 - dct_p2).abs() as f64
abbrev pub distance : ℤ → ℤ → Float
distance a b = double (nat_abs (a -ℤ b))

-- if err < err_mask { 0.0 } else { err - err_mask }
abbrev pub unmasked : Float → Float → Float
unmasked err err_mask = cond (lt err err_mask) zero_d (err ⊖ err_mask)

-- err at a place: nothing of the DC term's is masked
unfoldable pub err_at : Bool → Float → Float → Float → Float
err_at dc err mask m = cond dc err (unmasked err (m ⊘ mask))

-- (err × csf).powi(2), with the square one multiplication
unfoldable pub term : Bool → Float → Float → Float → Float → Float
term dc err csf mask m = err_at dc err mask m ⊗ csf ⊗ (err_at dc err mask m ⊗ csf)

-- the term of a place, added to s
abbrev pub add_term : List ℤ → List ℤ → List (List Float) → List (List Float) → Float → Float → ℕ → ℕ → Float
add_term d1 d2 csf mask m s i j = s ⊕ term (is_dc i j) (distance (cell d1 i j) (cell d2 i j)) (entry csf i j) (entry mask i j) m

unfoldable pub errors : List ℤ → List ℤ → List (List Float) → List (List Float) → Float → Float → Float
errors d1 d2 csf mask m result = over_square block_side (add_term d1 d2 csf mask m) result

-- result, and then one block of each plane
unfoldable pub with_block : List ℤ → List ℤ → List (List Float) → List (List Float) → Float → Float
with_block p1 p2 csf mask result =
    let d1 = fdct8x8 p1 in
    let d2 = fdct8x8 p2 in
    errors d1 d2 csf mask (mask_of_both p1 p2 d1 d2 mask) result

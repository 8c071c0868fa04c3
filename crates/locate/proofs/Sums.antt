-- The sums of a tile, counted up by the code. Assumes nothing.
use mathlib.Core.Path.{◌≡◌, ◌∙◌, ap₂}
use mathlib.Core.Bool.{Bool}
use mathlib.Core.List.{List, map}
use Prim.Native.Nat.{ℕ, ◌+◌, ◌-◌, ◌*◌, ◌≤◌, ◌<◌}
use native.Mathlib.Omega.{arith}
use lib.ListN.{length, take, drop, length-drop}
use lib.Seq.{length-take-le, get_or-take, get_or-drop}
use Rattle.std.proofs.lemmas.List.{take-map, drop-map}
use Rattle.plane.specs.Plane.{Planes, at, sample_at}
use Rattle.plane.specs.declared.Pair as two
use Rattle.plane.specs.Inner.Seen.{planes}
use Rattle.plane.proofs.Limits.{side_small}
use Rattle.plane.proofs.Sums.{sum_none, sum_more, sum_ext}
use Rattle.psnr.specs.Squared.{square_of}
use Rattle.psnr.specs.Inner.Walk.{Walkable, squares_in}
use Rattle.locate.specs.Map.{tile_side, tile_length, piece_error, tile_error_to}
use Rattle.locate.proofs.Places.{first_row, second_row, first_long, first_at, second_at}
use Rattle.locate.proofs.Sides.{begins, ends, length_most}

-- a piece, counted up
module _ (a b : List ℕ) where
  pub piece_none : squares_in a b 0 ≡ 0
  unfolding squares_in
  piece_none = sum_none _

  pub piece_next : (x : ℕ) {sum square : ℕ} → sum ≡ squares_in a b x → square ≡ square_of (at a x) (at b x)
      → sum + square ≡ squares_in a b (x + 1)
  unfolding squares_in
  piece_next x e f = rw (sum_more _ x, e, f)

pub ruleset piece_steps = (piece_none, piece_next)

-- a part of a row, `&row[from..to]`
abbrev cut : {S : Type 0} → List S → ℕ → ℕ → List S
cut row from to = take (to - from) (drop from row)

-- a piece is such a part of a row of each plane
module _ {S : Type 0} (value : S → ℕ) (row : List S) (x n : ℕ) where
  cut_at : (k : ℕ) → k < n → at (map value (cut row x (x + n))) k ≡ at (map value row) (x + k)
  cut_at k l =
      rw (← (take-map value (x + n - x) (drop x row)), ← (drop-map value x row))
      (get_or-take (x + n - x) (drop x (map value row)) k 0 (omega arith) ∙ get_or-drop x (map value row) k 0)

  cut_length : x + n ≤ length row → length (cut row x (x + n)) ≡ n
  cut_length l = length-take-le (x + n - x) (drop x row) (simp length-drop (omega arith)) ∙ omega arith

module _ {S : Type 0} (value : S → ℕ) (wide : Bool) (c : two.Pair S) (w : Walkable (planes value wide c)) (y : ℕ) (l : y < c.format.height) where
  module _ {a b : List S} (ea : a ≡ first_row value wide c w y l) (eb : b ≡ second_row value wide c w y l) where
    piece_at : (x n k : ℕ) → x + n ≤ c.format.width → k < n
        → (at (map value (cut a x (x + n))) k ≡ sample_at (planes value wide c).a y (x + k))
        × (at (map value (cut b x (x + n))) k ≡ sample_at (planes value wide c).b y (x + k))
    piece_at x n k fits m =
        let i : x + k < c.format.width = omega arith in
        let first : at (map value a) (x + k) ≡ sample_at (planes value wide c).a y (x + k) = rw ea (first_at value wide c w y l (x + k) i) in
        let second : at (map value b) (x + k) ≡ sample_at (planes value wide c).b y (x + k) = rw eb (second_at value wide c w y l (x + k) i) in
        (cut_at value a x n k m ∙ first, cut_at value b x n k m ∙ second)

    pub piece_is : (x n : ℕ) → x + n ≤ c.format.width
        → squares_in (map value (cut a x (x + n))) (map value (cut b x (x + n))) (length (cut a x (x + n))) ≡ piece_error (planes value wide c) x n y
    unfolding piece_error squares_in
    piece_is x n fits =
        let long : length a ≡ c.format.width = rw ea (first_long value wide c w y l) in
        rw (cut_length value a x n (omega arith)) (sum_ext _ _ n (λ k m. let e = piece_at x n k fits m in ap₂ square_of e.0 e.1))

module _ (p : Planes) where
  pub tile_none : (j i : ℕ) → tile_error_to p j i 0 ≡ 0
  unfolding tile_error_to
  tile_none j i = sum_none _

  -- one row more of a tile
  pub row_more : (j i k : ℕ) {sum piece : ℕ} → sum ≡ tile_error_to p j i k
      → piece ≡ piece_error p (i * tile_side) (tile_length p.size.width i) (j * tile_side + k) → sum + piece ≡ tile_error_to p j i (k + 1)
  unfolding tile_error_to
  row_more j i k e f = rw (sum_more _ k, e, f)

-- a tile lies inside its planes, and its rows are counted up
pub ruleset tile_rules = (side_small, begins, ends, length_most, tile_none, row_more)

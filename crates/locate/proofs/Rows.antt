-- The map, row of tiles by row of tiles. Assumes nothing.
use mathlib.Core.Path.{◌≡◌, sym, ap, ◌∙◌}
use mathlib.Core.List.{List, ◌++◌, append_assoc}
use Prim.Native.Nat.{ℕ, zero, suc, ◌+◌, ◌-◌, ◌*◌, ◌≤◌, ◌<◌}
use native.Mathlib.Nat.{mul-le-mul_right, zero-mul, suc-mul}
use native.Mathlib.Numerals.{add-one}
use native.Mathlib.Omega.{arith}
use borrow.Rule.Slice.PartMut.{put_mid, post_of}
use lib.ListN.{length, take, length-append}
use lib.Seq.{take_at, length-take-le}
use Rattle.number.specs.Steps.{list_to}
use Rattle.number.proofs.Lists.{list_length}
use Rattle.plane.specs.Plane.{Planes}
use Rattle.locate.specs.Map.{across_of, tile_error, map_to}

-- row j of d rows of n
pub row_room : (j n d : ℕ) → j < d → j * n + n ≤ d * n
row_room j n d l = omega (arith, mul-le-mul_right n l, suc-mul j n)

module _ (p : Planes) where
  pub map_length : (n : ℕ) → length (map_to p n) ≡ n * across_of p
  unfolding map_to
  map_length zero = sym (zero-mul (across_of p))
  map_length (suc n) = rw (length-append, map_length n, list_length, suc-mul)

  pub map_none : (n : ℕ) (map : List ℕ) → take (0 * n) map ≡ map_to p 0
  unfolding map_to
  map_none n map = rw (zero-mul n)

  -- a row of tiles is put behind those that stand there already
  pub map_more : (j n : ℕ) (map row : List ℕ) → n ≡ across_of p → j * n + n ≤ length map → take (j * n) map ≡ map_to p j
      → row ≡ list_to (tile_error p j) (across_of p) → take ((j + 1) * n) (put_mid (j * n) (j * n + n - j * n) map row) ≡ map_to p (j + 1)
  unfolding map_to
  map_more j n map row e room held said =
      let start : length (take (j * n) map) ≡ j * n = length-take-le (j * n) map (omega arith) in
      let count : length row ≡ n = ap length said ∙ list_length (tile_error p j) (across_of p) ∙ sym e in
      let both : length (take (j * n) map ++ row) ≡ j * n + n = rw (length-append, start, count) in
      let rest : List ℕ = post_of (j * n) (j * n + n - j * n) map in
      rw (add-one, suc-mul, ← (append_assoc (take (j * n) map) row rest), take_at _ rest _ both, held, said)

-- Rows taken as they come: each goes into the ring, and then the centres are scored that can be. Definitions only.
use Rattle.std.specs.Prelude.{cond, List, ℕ, ◌+◌, ◌-◌, ◌*◌, ◌/◌, ◌%◌, eqb, Float, ℤ, length}
use Rattle.number.specs.Steps.{fold_to}
use Rattle.plane.specs.Plane.{Planes, sample_at}
use Rattle.window.specs.Moments.{moments_at}
use Rattle.ssim.specs.Score.{row_of}
use Rattle.ssim.specs.declared.Totals.{Totals}
use Rattle.row_ring.specs.declared.Ring.{Ring}
use Rattle.row_ring.specs.Ring.{packed_of, stored_of, ring_a, ring_b}

-- how many rows of centres are scored once r rows have come: those that have half a kernel, `off`, of further rows, or all
unfoldable pub scored_after : ℕ → ℕ → ℕ → ℕ
scored_after r height off = cond (eqb r height) height (r - off)

-- n rows of centres more, from row `from` on
unfoldable pub rows_from : Float → List ℕ → ℕ → ℕ → (ℕ → ℕ → ℕ) → (ℕ → ℕ → ℕ) → Totals → ℕ → ℕ → Totals
rows_from max2 ker width height a b t from n =
    fold_to (λ (s : Totals) (i : ℕ). row_of max2 (λ (x : ℕ). moments_at ker width height a b x (from + i)) s width) t n

-- what is kept from row to row: the lent places, and the running sums
pub record Kept : Type 0 where
  pub places : List ℤ
  pub totals : Totals

-- rows of a group, two planes `rows` high, of which the first is row `received` of the whole
module _ (max2 : Float) (ker : List ℕ) (ring : Ring) (rows : Planes) (received : ℕ) where
  -- row i of the group in its slot
  abbrev pub with_row : List ℤ → ℕ → List ℤ
  with_row s i =
      stored_of s ((received + i) % ring.lines * ring.width) (λ (x : ℕ). packed_of (sample_at rows.a i x) (sample_at rows.b i x)) ring.width

  -- the centres that can be scored once it is there
  abbrev pub scored_row : List ℤ → Totals → ℕ → Totals
  scored_row s t i =
      let from = scored_after (received + i) ring.height (length ker / 2) in
      let upto = scored_after (received + i + 1) ring.height (length ker / 2) in
      rows_from max2 ker ring.width ring.height (ring_a s ring.width ring.lines) (ring_b s ring.width ring.lines) t from (upto - from)

  abbrev pub take_row : Kept → ℕ → Kept
  take_row k i = record { places = with_row k.places i; totals = scored_row (with_row k.places i) k.totals i }

  -- the first n rows of the group
  unfoldable pub taken_of : Kept → ℕ → Kept
  taken_of k n = fold_to take_row k n

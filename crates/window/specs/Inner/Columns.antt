-- Column sums of one centre row in lent scratch, five places to a column, and the six moments made from them. Definitions only.
use Rattle.std.specs.Prelude.{◌≡◌, List, ℕ, ◌+◌, ◌*◌, ◌/◌, ◌%◌, ◌≤◌, ◌<◌, ◌^◌, T, ℤ, pos, nat_abs, length, get_or}
use Rattle.std.specs.Int.Signed.{non_neg}
use Rattle.plane.specs.declared.Pair as two
use Rattle.plane.specs.Plane.{Plane, Planes, sample_at}
use Rattle.plane.specs.Inner.Seen.{seen}
use Rattle.plane.specs.Inner.Lawful.{Bounded}
use Rattle.window.specs.Moments.{most_sample}
use Rattle.window.specs.Inner.Parts.{window_of, weight_of, across_of, quant_of, parts_of, nth}
use Rattle.window.specs.declared.FiveSums.{FiveSums}
use Rattle.window.specs.declared.Moments.{Moments}

-- ---- what is read

-- two planes as the sums read them
pub record OnGrid : Type 0 where
  pub width : ℕ
  pub height : ℕ
  pub a : Plane
  pub b : Plane

-- those that a function is lent, of samples that are these numbers
module _ {S : Type 0} (value : S → ℕ) where
  abbrev pub on_grid : two.Pair S → OnGrid
  on_grid p = record { width = p.format.width; height = p.format.height; a = seen value p.a; b = seen value p.b }

-- those of a call
abbrev pub gridded : Planes → OnGrid
gridded p = record { width = p.size.width; height = p.size.height; a = p.a; b = p.b }

-- planes that can be summed
pub record Summable (p : OnGrid) : Type 0 where
  pub first : Bounded most_sample p.width p.height p.a
  pub second : Bounded most_sample p.width p.height p.b

-- ---- what is kept

-- the first n taps down column x of two views, the middle in row y: five sums
unfoldable pub column_to : List ℕ → ℕ → (ℕ → ℕ → ℕ) → (ℕ → ℕ → ℕ) → ℕ → ℕ → ℕ → FiveSums
column_to ker height a b x y n = parts_of ker height (λ (m r : ℕ). quant_of m (a r x) (b r x)) y n

-- all of them
abbrev pub column_of : List ℕ → OnGrid → ℕ → ℕ → FiveSums
column_of ker p x y = column_to ker p.height (sample_at p.a) (sample_at p.b) x y (length ker)

-- place p, and 0 past the end
abbrev pub at_z : List ℤ → ℕ → ℤ
at_z s p = get_or s p (pos 0)

-- sum m of column c of those that stand there, margins and all
abbrev pub cell_of : List ℤ → ℕ → ℕ → ℕ
cell_of s m c = nat_abs (at_z s (5 * c + m))

-- place j of the column sums of centre row y: the window down column j / 5, of quantity j % 5
abbrev pub column_at : List ℕ → ℕ → (ℕ → ℕ → ℕ) → (ℕ → ℕ → ℕ) → ℕ → ℕ → ℕ
column_at ker height a b y j = window_of ker height (λ (r : ℕ). quant_of (j % 5) (a r (j / 5)) (b r (j / 5))) y

-- the first n places hold them
unfoldable pub Holds : List ℤ → ℕ → List ℕ → ℕ → (ℕ → ℕ → ℕ) → (ℕ → ℕ → ℕ) → ℕ → Type 0
Holds s n ker height a b y = (j : ℕ) → j < n → at_z s j ≡ pos (column_at ker height a b y j)

-- those of two planes
abbrev pub HoldsRow : List ℤ → ℕ → List ℕ → OnGrid → ℕ → Type 0
HoldsRow s n ker p y = Holds s n ker p.height (sample_at p.a) (sample_at p.b) y

-- how many columns stand there: those of the plane, and half a kernel of zeros before and after
abbrev pub columns_of : List ℕ → ℕ → ℕ
columns_of ker width = width + 2 * (length ker / 2)

-- `new` has g 0 to g (n - 1) from place `from` on, and is `old` before and after
pub record Put (old new : List ℤ) (from n : ℕ) (g : ℕ → ℕ) : Type 0 where
  pub there : (i : ℕ) → i < n → at_z new (from + i) ≡ pos (g i)
  pub before : (i : ℕ) → i < from → at_z new i ≡ at_z old i
  pub after : (i : ℕ) → from + n ≤ i → at_z new i ≡ at_z old i

-- the margins are zero
pub record Margins (s : List ℤ) (ker : List ℕ) (width : ℕ) : Type 0 where
  pub left : (j : ℕ) → j < 5 * (length ker / 2) → at_z s j ≡ pos 0
  pub right : (j : ℕ) → 5 * (length ker / 2) + 5 * width ≤ j → at_z s j ≡ pos 0

-- five sums that places of 64 signed bits can hold
abbrev pub Fits : FiveSums → Type 0
Fits t = (m : ℕ) → nth t m < 2 ^ 63

-- a place that holds a column sum: a number, of at most 2 ^ 50
pub record ColumnSum (z : ℤ) : Type 0 where
  pub sign : T (non_neg z)
  pub low : nat_abs z ≤ 2 ^ 50

abbrev pub ColumnSums : List ℤ → ℕ → Type 0
ColumnSums s n = (j : ℕ) → j < n → ColumnSum (at_z s j)

-- the six moments at x, as the column sums give them; down is the weight of the rows
unfoldable pub moments_in : List ℕ → List ℤ → ℕ → ℕ → ℕ → Moments
moments_in ker s width down x =
    record {
      mux = across_of ker (cell_of s 0) x;
      muy = across_of ker (cell_of s 1) x;
      x2 = across_of ker (cell_of s 2) x;
      xy = across_of ker (cell_of s 3) x;
      y2 = across_of ker (cell_of s 4) x;
      w = down * weight_of ker width x;
    }

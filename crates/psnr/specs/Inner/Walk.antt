-- What the walk over two planes may count on, what it adds up in a row and in a part of one, and what it finds. Definitions only.
use Rattle.std.specs.Prelude.{◌≡◌, ℕ, zero, suc, ◌-◌, ◌*◌, ◌^◌, ◌≤◌, Bool, true, false, ◌&&◌, List, bit_or, Result, Ok, Err}
use Rattle.refusal.specs.declared.Refusal.{Refusal}
use Rattle.refusal.specs.declared.Refusal.TheVariants as no
use Rattle.plane.specs.Limits.{side_limit}
use Rattle.plane.specs.Plane.{Planes, sample_limit, at, max_of}
use Rattle.plane.specs.Sums.{sum_to}
use Rattle.plane.specs.Tests.{depth_suits, none_above, row_suits, samples_suit}
use Rattle.plane.specs.Inner.Seen.{Long}
use Rattle.plane.specs.Inner.Lawful.{BoundedPair}
use Rattle.psnr.specs.Squared.{square_of, row_error, squared_error_score}

-- ---- what may be counted on
-- every visible sample is there, none is larger than any depth allows, and there are so few that no sum outgrows its word
pub record Walkable (p : Planes) : Type 0 where
  pub width_most : p.size.width ≤ side_limit
  pub height_most : p.size.height ≤ side_limit
  pub bounded : BoundedPair sample_limit p

-- where none of 1 to 5 refuses the planes, and 6 is not judged yet: a sample may be any
pub record Readable (p : Planes) : Type 0 where
  pub depth_suits_lem : depth_suits p.size.wide p.size.depth ≡ true
  pub width_most : p.size.width ≤ side_limit
  pub height_most : p.size.height ≤ side_limit
  pub first_long : Long p.size p.a
  pub second_long : Long p.size p.b

-- the largest word, and no byte is larger
abbrev pub word_most : ℕ
word_most = 65535

-- ---- sums
-- the sum of (a - b)² over the first n samples of two rows
unfoldable pub squares_in : List ℕ → List ℕ → ℕ → ℕ
squares_in a b n = sum_to (λ (x : ℕ). square_of (at a x) (at b x)) n

-- every bit that is in one of them
unfoldable pub bits_in : List ℕ → List ℕ → ℕ → ℕ
bits_in a b zero = 0
bits_in a b (suc n) = bit_or (bits_in a b n) (bit_or (at a n) (at b n))

-- how many squares fit 32 bits, where no sample has more bits than the depth
unfoldable pub part_length : ℕ → ℕ
part_length depth = 2 ^ (32 - 2 * depth)

-- ---- what is found
-- the sum where test 6 passes, and that refusal where it does not
abbrev pub walked_if : Bool → ℕ → Result ℕ Refusal
walked_if true sum = Ok sum
walked_if false sum = Err no.Sample

-- in the first n samples of two rows
abbrev pub pair_suits : ℕ → List ℕ → List ℕ → ℕ → Bool
pair_suits depth a b n = none_above (max_of depth) (at a) n && none_above (max_of depth) (at b) n

unfoldable pub row_walked : ℕ → List ℕ → List ℕ → ℕ → Result ℕ Refusal
row_walked depth a b n = walked_if (pair_suits depth a b n) (squares_in a b n)

-- in row y of two planes
unfoldable pub walked_at : Planes → ℕ → Result ℕ Refusal
walked_at p y =
    let max = max_of p.size.depth in
    let width = p.size.width in
    walked_if (row_suits max width p.a y && row_suits max width p.b y) (row_error p width y)

-- and in all their rows
unfoldable pub walked_of : Planes → Result ℕ Refusal
walked_of p = walked_if (samples_suit p.size p.a && samples_suit p.size p.b) (squared_error_score p)

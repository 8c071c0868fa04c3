-- What a user may count on of the map: each place has the sum over its tile, all of them add up to the squared error, padding does not
-- count, nor does which plane comes first, and places past the map stay. Assumes nothing.
use mathlib.Core.Path.{◌≡◌, refl, sym, ap, ◌∙◌}
use mathlib.Core.List.{List, [], ◌∷◌, ◌++◌}
use Prim.Native.Nat.{ℕ, zero, suc, min, ◌+◌, ◌-◌, ◌*◌, ◌≤◌, ◌<◌}
use native.Mathlib.Nat.{not-suc-le-zero, mul-le-mul_right, zero-mul, suc-mul, le_of_lt, le_refl}
use native.Mathlib.Decide.{dec_lt}
use native.Mathlib.Numerals.{add-one}
use native.Mathlib.Omega.{arith}
use lib.ListN.{length, drop, get_or-append}
use lib.Seq.{get_or-append-add, get_or-drop}
use Rattle.std.specs.Prelude.{Ok, Err}
use Rattle.refusal.specs.First.{Verdict, first_broken, by_refusal, unless_refused}
use Rattle.number.specs.Steps.{list_to}
use Rattle.number.proofs.Lists.{list_length, list_ext}
use Rattle.plane.specs.Plane.{Size, Plane, Planes, planes_of, at, sample_at}
use Rattle.plane.specs.Sums.{sum_to}
use Rattle.plane.specs.Tests.{pair_refusal}
use Rattle.plane.specs.Inner.Lawful.{Equivalent}
use Rattle.plane.proofs.Sums.{sum_none, sum_ext, sum_split, sum_swap}
use Rattle.plane.proofs.Exchange.{refusal_exchanged, refusal_equivalent}
use Rattle.psnr.specs.Squared.{square_of, row_error, error_to, squared_error_score}
use Rattle.psnr.proofs.Laws.{square_swap}
use Rattle.locate.specs.Map.{tile_side, tiles_along, tile_length, piece_error, tile_error_to, tile_error, across_of, down_of}
use Rattle.locate.specs.Map.{map_to, map_of, map_places, map_refusal, mapped_of, map_after}
use Rattle.locate.proofs.Accept.{own, map_in_parts}
use Rattle.locate.proofs.Sides.{begins, ends}
use Rattle.locate.proofs.Rows.{map_length}

-- ---- the entry of a tile
list_at : (f : ℕ → ℕ) (n i : ℕ) → i < n → at (list_to f n) i ≡ f i
unfolding list_to
list_at f zero i l = absurd (not-suc-le-zero l)
list_at f (suc n) i l = go (list_at f n i) (dec_lt i n)
  where
    go : (i < n → at (list_to f n) i ≡ f i) → Dec (i < n) → at (list_to f n ++ (f n ∷ [])) i ≡ f i
    go earlier (yes m) = get_or-append (list_to f n) (f n ∷ []) 0 i (rw (list_length f n) m) ∙ earlier m
    go earlier (no m) =
        let q : i ≡ length (list_to f n) + 0 = omega (arith, list_length f n) in
        let e : i ≡ n = omega arith in
        ap (at (list_to f n ++ (f n ∷ []))) q ∙ get_or-append-add (list_to f n) (f n ∷ []) 0 0 ∙ ap f (sym e)

module _ (p : Planes) where
  entry_to : (n j i : ℕ) → j < n → i < across_of p → at (map_to p n) (j * across_of p + i) ≡ tile_error p j i
  unfolding map_to
  entry_to zero j i lj li = absurd (not-suc-le-zero lj)
  entry_to (suc n) j i lj li = go (λ m. entry_to n j i m li) (dec_lt j n)
    where
      go : (j < n → at (map_to p n) (j * across_of p + i) ≡ tile_error p j i) → Dec (j < n)
          → at (map_to p n ++ list_to (tile_error p n) (across_of p)) (j * across_of p + i) ≡ tile_error p j i
      go earlier (yes m) =
          get_or-append (map_to p n) _ 0 (j * across_of p + i)
          (omega (arith, map_length p n, mul-le-mul_right (across_of p) m, suc-mul j (across_of p)))
          ∙ earlier m
      go earlier (no m) =
          let e : j ≡ n = omega arith in
          let q : j * across_of p + i ≡ length (map_to p n) + i = omega (arith, map_length p n, ap (λ (k : ℕ). k * across_of p) e) in
          ap (at (map_to p n ++ list_to (tile_error p n) (across_of p))) q ∙ get_or-append-add (map_to p n) _ i 0
          ∙ list_at (tile_error p n) (across_of p) i li ∙ ap (λ (k : ℕ). tile_error p k i) (sym e)

  -- place j * across + i has the squared error of the tile in row j and column i
  pub map_entry : (j i : ℕ) → j < down_of p → i < across_of p → at (map_of p) (j * across_of p + i) ≡ tile_error p j i
  map_entry j i lj li = entry_to (down_of p) j i lj li

-- ---- the total
-- so many numbers, row by row
sum_grid : (g : ℕ → ℕ) (m n : ℕ) → sum_to g (m * n) ≡ sum_to (λ (j : ℕ). sum_to (λ (i : ℕ). g (j * n + i)) n) m
unfolding sum_to
sum_grid g zero n = rw (zero-mul n) (sum_none g)
sum_grid g (suc m) n = rw (suc-mul, sum_split g (m * n) n, sum_grid g m n)

-- the first t tiles of a side have its first samples
tiles_cover : (side t : ℕ) → min side ((t + 1) * tile_side) ≡ min side (t * tile_side) + tile_length side t
unfolding tile_length tile_side
tiles_cover side t = omega arith

-- all tiles have all samples
tiles_all : (side : ℕ) → min side (tiles_along side * tile_side) ≡ side
unfolding tiles_along tile_side
tiles_all side = omega arith

-- a tile that has a sample begins where the tiles before it end
tile_begins : (side t x : ℕ) → x < tile_length side t → min side (t * tile_side) ≡ t * tile_side
unfolding tile_length tile_side
tile_begins side t x l = omega (arith, l)

tiles_sum : (f : ℕ → ℕ) (side t : ℕ)
    → sum_to f (min side (t * tile_side)) ≡ sum_to (λ (k : ℕ). sum_to (λ (x : ℕ). f (k * tile_side + x)) (tile_length side k)) t
unfolding sum_to
tiles_sum f side zero = let z : min side (0 * tile_side) ≡ 0 = omega (arith, zero-mul tile_side) in rw z (sum_none f)
tiles_sum f side (suc t) =
    let more : min side (suc t * tile_side) ≡ min side (t * tile_side) + tile_length side t = rw add-one at (tiles_cover side t) in
    let last : sum_to (λ (x : ℕ). f (min side (t * tile_side) + x)) (tile_length side t) ≡ sum_to (λ (x : ℕ). f (t * tile_side + x)) (tile_length side t) =
    sum_ext _ _ (tile_length side t) (λ x l. ap (λ (b : ℕ). f (b + x)) (tile_begins side t x l)) in
    rw (more, sum_split f (min side (t * tile_side)) (tile_length side t), tiles_sum f side t, last)

-- a sum over a side, tile by tile
pub sum_tiles : (f : ℕ → ℕ) (side : ℕ)
    → sum_to f side ≡ sum_to (λ (k : ℕ). sum_to (λ (x : ℕ). f (k * tile_side + x)) (tile_length side k)) (tiles_along side)
sum_tiles f side = ap (sum_to f) (sym (tiles_all side)) ∙ tiles_sum f side (tiles_along side)

module _ (p : Planes) where
  -- a row of samples, tile by tile
  row_pieces : (y : ℕ) → row_error p p.size.width y
      ≡ sum_to (λ (i : ℕ). piece_error p (i * tile_side) (tile_length p.size.width i) y) (across_of p)
  unfolding row_error piece_error
  row_pieces y = sum_tiles _ p.size.width

  -- the rows of samples in row j of tiles
  band : (j : ℕ) → sum_to (λ (k : ℕ). row_error p p.size.width (j * tile_side + k)) (tile_length p.size.height j)
      ≡ sum_to (tile_error p j) (across_of p)
  unfolding tile_error_to
  band j =
      let rows : ℕ = tile_length p.size.height j in
      sum_ext _ _ rows (λ k l. row_pieces (j * tile_side + k)) ∙ sum_swap _ rows (across_of p)

  -- the squared error, tile by tile
  by_tiles : squared_error_score p ≡ sum_to (λ (j : ℕ). sum_to (tile_error p j) (across_of p)) (down_of p)
  unfolding error_to
  by_tiles = sum_tiles (row_error p p.size.width) p.size.height ∙ sum_ext _ _ (down_of p) (λ j l. band j)

  -- the map's total is the squared error
  pub map_total : sum_to (at (map_of p)) (map_places p) ≡ squared_error_score p
  map_total =
      sum_grid (at (map_of p)) (down_of p) (across_of p)
      ∙ sum_ext _ _ (down_of p) (λ j lj. sum_ext _ _ (across_of p) (λ i li. map_entry p j i lj li))
      ∙ sym by_tiles

-- ---- what does not count
-- a sample of a tile is a sample of the side
tile_inside : (side k x : ℕ) → k < tiles_along side → x < tile_length side k → k * tile_side + x < side
tile_inside side k x lk lx = omega (arith, lx, ends side k (le_of_lt (begins side k lk)))

module _ (size : Size) (a b a' b' : Plane) where
  abbrev these : Planes
  these = planes_of size a b

  abbrev those : Planes
  those = planes_of size a' b'

  module _ (same : (r c : ℕ) → r < size.height → c < size.width
      → square_of (sample_at a r c) (sample_at b r c) ≡ square_of (sample_at a' r c) (sample_at b' r c)) where
    tile_same : (j i : ℕ) → j < down_of these → i < across_of these → tile_error these j i ≡ tile_error those j i
    unfolding tile_error_to piece_error
    tile_same j i lj li =
        sum_ext _ _ (tile_length size.height j)
        (λ k lk. sum_ext _ _ (tile_length size.width i)
        (λ x lx. same _ _ (tile_inside size.height j k lj lk) (tile_inside size.width i x li lx)))

    map_same : (n : ℕ) → n ≤ down_of these → map_to these n ≡ map_to those n
    unfolding map_to
    map_same zero l = refl
    map_same (suc n) l = rw (map_same n (omega arith), list_ext _ _ (across_of these) (λ i li. tile_same n i (omega arith) li))

  -- planes that no test tells apart are refused alike
  refusal_same : pair_refusal these 0 ≡ pair_refusal those 0 → (places : ℕ) → map_refusal these places ≡ map_refusal those places
  refusal_same e places =
      map_in_parts these places
      ∙ ap (λ (v : Verdict). unless_refused v (first_broken (own these places))) e
      ∙ sym (map_in_parts those places)

-- padding, strides and what comes after the last row: neither for the answer nor for what is written
pub map_visible : (size : Size) (old : List ℕ) {a b a' b' : Plane} → Equivalent size a a' → Equivalent size b b'
    → (mapped_of (planes_of size a b) old ≡ mapped_of (planes_of size a' b') old)
    × (map_after (planes_of size a b) old ≡ map_after (planes_of size a' b') old)
unfolding mapped_of map_after
map_visible size old {a} {b} {a'} {b'} p q =
    let refused = refusal_same size a b a' b' (refusal_equivalent size 0 p q) (length old) in
    let map = map_same size a b a' b' (λ r c lr lc. rw (p.alike r c lr lc, q.alike r c lr lc)) _ (le_refl _) in
    (rw refused, rw (refused, map))

-- which plane comes first
pub map_exchanged : (size : Size) (old : List ℕ) (a b : Plane)
    → (mapped_of (planes_of size a b) old ≡ mapped_of (planes_of size b a) old) × (map_after (planes_of size a b) old ≡ map_after (planes_of size b a) old)
unfolding mapped_of map_after
map_exchanged size old a b =
    let refused = refusal_same size a b b a (refusal_exchanged size a b 0) (length old) in
    let map = map_same size a b b a (λ r c lr lc. square_swap (sample_at a r c) (sample_at b r c)) _ (le_refl _) in
    (rw refused, rw (refused, map))

-- places past the map stay, whatever the answer
pub past_stays : (p : Planes) (old : List ℕ) (k : ℕ) → map_places p ≤ k → at (map_after p old) k ≡ at old k
unfolding map_after
past_stays p old k l = go (map_refusal p (length old))
  where
    go : (v : Verdict) → at (by_refusal v (map_of p ++ drop (map_places p) old) old) k ≡ at old k
    go (Ok _) =
        let q : k ≡ length (map_of p) + (k - map_places p) = omega (arith, l, map_length p (down_of p)) in
        let r : map_places p + (k - map_places p) ≡ k = omega (arith, l) in
        ap (at (map_of p ++ drop (map_places p) old)) q ∙ get_or-append-add (map_of p) _ (k - map_places p) 0
        ∙ get_or-drop (map_places p) old (k - map_places p) 0 ∙ ap (at old) r
    go (Err r) = refl

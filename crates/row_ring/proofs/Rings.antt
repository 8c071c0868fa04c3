-- A ring of L lines: slots, what a stored row changes, and which rows the ring shows. Assumes nothing.
use mathlib.Core.Path.{◌≡◌, sym, ◌∙◌, ap}
use mathlib.Core.List.{List}
use Prim.Native.Nat.{ℕ, ◌+◌, ◌*◌, ◌/◌, ◌%◌, ◌≤◌, ◌<◌}
use native.Mathlib.Nat.{add-mul, div-add-mod', mod-lt, mod_self, mod-eq_of_lt, mod-add-mod, mul-le-mul_right, lt_of_mul-lt-mul_right}
use native.Mathlib.Decide.{dec_lt}
use native.Mathlib.Omega.{arith}
use lib.Arith.{lt_of_le-ne}
use lib.Dec.{lit≤}
use lib.IntN.{ℤ, pos}
use Rattle.window.specs.Moments.{most_sample}
use Rattle.window.specs.Inner.Columns.{at_z, Put}
use Rattle.row_ring.specs.Ring.{pair_base, packed_of, first_of, second_of, place_at, ring_a, ring_b}
use Rattle.row_ring.proofs.Pairs.{first_small, second_small, first_packed, second_packed}

-- ---- slots
-- two rows fewer than L apart stand in two slots
pub mod_apart : (L r y : ℕ) → r < y → y < r + L → r % L ≡ y % L → ⊥
mod_apart L r y l m e =
    let p : r / L < y / L = lt_of_mul-lt-mul_right L (omega (arith, div-add-mod' r L, div-add-mod' y L)) in
    omega (arith, div-add-mod' r L, div-add-mod' y L, mul-le-mul_right L p)

-- rows further on stand in the slots further on, up to the last
slot_along : (L r d : ℕ) → r % L + d < L → (r + d) % L ≡ r % L + d
slot_along L r d l = sym (mod-add-mod r L d) ∙ mod-eq_of_lt l

-- at places that are a width apart
pub along : (width L r d q c at : ℕ) → r + d ≡ q → r % L + d < L → at ≡ place_at width L r c → at + d * width ≡ place_at width L q c
along width L r d q c at e l f =
    let slot = rw e at (slot_along L r d l) in
    rw (f, slot) (omega (arith, add-mul (r % L) d width))

-- and the row past the last slot in the first
pub slot_over : (L r d : ℕ) → 0 < L → r % L + d ≡ L → (r + d) % L ≡ 0
slot_over L r d some e = sym (mod-add-mod r L d) ∙ ap (λ (q : ℕ). q % L) e ∙ mod_self L

-- a slot's row ends inside the ring
pub slot_inside : (width L r n : ℕ) → 0 < L → L * width ≤ n → r % L * width + width ≤ n
slot_inside width L r n l m = omega (arith, mul-le-mul_right width (mod-lt r l))

-- ---- what the ring shows

-- the last L rows before row y, as far as there are so many, are those of the views a and b
pub record Shows (s : List ℤ) (width L : ℕ) (a b : ℕ → ℕ → ℕ) (y : ℕ) : Type 0 where
  pub first : (r c : ℕ) → r < y → y ≤ r + L → c < width → ring_a s width L r c ≡ a r c
  pub second : (r c : ℕ) → r < y → y ≤ r + L → c < width → ring_b s width L r c ≡ b r c

pub shows_none : (s : List ℤ) (width L : ℕ) (a b : ℕ → ℕ → ℕ) → Shows s width L a b 0
shows_none s width L a b = record { first = λ r c l m k. absurd (omega arith); second = λ r c l m k. absurd (omega arith) }

module _ (old new : List ℤ) (width L y : ℕ) (g : ℕ → ℕ) (p : Put old new (y % L * width) width g) where
  -- a row that is fewer than L before stays
  pub row_kept : (r c : ℕ) → r < y → y < r + L → c < width → at_z new (place_at width L r c) ≡ at_z old (place_at width L r c)
  row_kept r c l m k = go (dec_lt (r % L) (y % L))
    where
      go : Dec (r % L < y % L) → at_z new (place_at width L r c) ≡ at_z old (place_at width L r c)
      go (yes q) = p.before _ (omega (arith, mul-le-mul_right width q))
      go (no q) =
          let z : y % L < r % L = lt_of_le-ne (omega arith) (λ e. mod_apart L r y l m (sym e)) in
          p.after _ (omega (arith, mul-le-mul_right width z))

  -- row y's pairs stored: the ring shows the rows below y + 1
  module _ (a b : ℕ → ℕ → ℕ) (same : (c : ℕ) → c < width → g c ≡ packed_of (a y c) (b y c))
      (low_a : (c : ℕ) → c < width → a y c < pair_base) (low_b : (c : ℕ) → c < width → b y c < pair_base) (held : Shows old width L a b y) where
    place_new : (c : ℕ) → c < width → at_z new (place_at width L y c) ≡ pos (packed_of (a y c) (b y c))
    place_new c k = p.there c k ∙ ap pos (same c k)

    pub shows_more : Shows new width L a b (y + 1)
    unfolding ring_a ring_b
    shows_more =
        record {
          first = λ r c l m k. at_first r c k m (dec_lt r y) l;
          second = λ r c l m k. at_second r c k m (dec_lt r y) l;
        }
      where
        at_first : (r c : ℕ) → c < width → y + 1 ≤ r + L → Dec (r < y) → r < y + 1 → ring_a new width L r c ≡ a r c
        at_first r c k m (yes l) n = ap first_of (row_kept r c l (omega arith) k) ∙ held.first r c l (omega arith) k
        at_first r c k m (no l) n =
            let e : r ≡ y = omega arith in
            rw e (ap first_of (place_new c k) ∙ first_packed (a y c) (b y c) (low_a c k))

        at_second : (r c : ℕ) → c < width → y + 1 ≤ r + L → Dec (r < y) → r < y + 1 → ring_b new width L r c ≡ b r c
        at_second r c k m (yes l) n = ap second_of (row_kept r c l (omega arith) k) ∙ held.second r c l (omega arith) k
        at_second r c k m (no l) n =
            let e : r ≡ y = omega arith in
            rw e (ap second_of (place_new c k) ∙ second_packed (a y c) (b y c) (low_a c k) (low_b c k))

-- ---- what is read from it, whatever stands there
module _ (s : List ℤ) (width L r c i : ℕ) (e : i ≡ r % L * width + c) where
  pub read_first : first_of (at_z s i) ≡ ring_a s width L r c
  unfolding ring_a
  read_first = rw e

  pub read_second : second_of (at_z s i) ≡ ring_b s width L r c
  unfolding ring_b
  read_second = rw e

-- words are few enough for the sums
word_small : pair_base ≤ most_sample
unfolding pair_base most_sample
word_small = lit≤ tt

pub ring_small_a : (s : List ℤ) (width L r c : ℕ) → ring_a s width L r c ≤ most_sample
unfolding ring_a
ring_small_a s width L r c = omega (arith, first_small (at_z s (place_at width L r c)), word_small)

pub ring_small_b : (s : List ℤ) (width L r c : ℕ) → ring_b s width L r c ≤ most_sample
unfolding ring_b
ring_small_b s width L r c = omega (arith, second_small (at_z s (place_at width L r c)), word_small)

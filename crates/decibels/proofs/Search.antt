-- The place at which the chart is parted into the entries that fit and those that do not. Assumes nothing.
use Rattle.std.proofs.Common.{◌≡◌, ℕ, ◌+◌, ◌-◌, ◌*◌, ◌%◌, ◌^◌, ◌<◌, ◌≤◌, true, false, length, get_or, sym, ◌∙◌, arith}
use Rattle.std.proofs.Common.{leb, leb-true, leb-false, not-le_of_lt, mul-le-mul, mul-le-mul_right, mul_comm, lt_of_le_of_lt}
use native.Mathlib.Nat.{mod-eq_of_lt}
use native.Mathlib.Decide.{dec_le}
use Rattle.std.proofs.lemmas.List.{get_or_default}
use Rattle.std.specs.List.Sorted.{IsNonDecreasingBy, IsPartitionPoint}
use Rattle.decibels.specs.Hundredths.{place_count, chart_unit, entry_of, place_of}
use Rattle.decibels.specs.Inner.Chart.{chart}
use Rattle.decibels.specs.Inner.Room.{peak_limit}
use Rattle.decibels.proofs.Entries.{some_places, entries_rise, entry_first, entry_small}
use Rattle.decibels.proofs.Charted.{all_places, charted}
use Rattle.decibels.proofs.Places.{place_is}
use Rattle.decibels.proofs.Room.{product_room}

-- an entry by its place, whatever a reader would have past the end
entry_at : (k d : ℕ) → k < length chart → get_or chart k d ≡ entry_of k
entry_at k d l = get_or_default chart k d 0 l ∙ sym (charted k (omega (arith, all_places)))

module _ (P t : ℕ) where
  -- a number times t, in 128 bits
  abbrev pub product : ℕ → ℕ
  product e = e * t % 2 ^ 128

  -- the entries that fit stand before place i, and the others from there on
  abbrev pub PartedAt : ℕ → Type 0
  PartedAt i = IsPartitionPoint (λ (e : ℕ). leb (product e) (P * chart_unit) ≡ true) (λ (e : ℕ). leb (product e) (P * chart_unit) ≡ false) chart i

  module _ (below : t ≤ P) (room : P < peak_limit) where
    -- an entry's product is whole
    whole : (k : ℕ) → k < place_count → product (entry_of k) ≡ entry_of k * t
    whole k l =
        let fits : t * entry_of k < 2 ^ 128 = product_room (lt_of_le_of_lt below room) (entry_small k l) in
        mod-eq_of_lt (rw (mul_comm (entry_of k) t) fits)

    pub products_rise : IsNonDecreasingBy product chart
    products_rise i j d l short =
        rw (entry_at i d (omega arith), entry_at j d short, whole i (omega (arith, all_places)), whole j (omega (arith, all_places)))
        (mul-le-mul_right t (entries_rise l))

    module _ (i : ℕ) (point : PartedAt i) where
      at_first : entry_of 0 * t ≤ P * chart_unit
      at_first = rw (mul_comm (entry_of 0) t) (mul-le-mul below entry_first)

      fits : (k : ℕ) → k < i → i ≤ length chart → entry_of k * t ≤ P * chart_unit
      fits k l m =
          rw (entry_at k 0 (omega arith), whole k (omega (arith, all_places)))
          at (leb-true _ _ (point.0 k 0 (omega arith) l))

      misses : (k : ℕ) → i ≤ k → k < length chart → P * chart_unit < entry_of k * t
      misses k l m = rw (entry_at k 0 m, whole k (omega (arith, all_places))) at (leb-false _ _ (point.1 k 0 l m))

      pub some_fit : 1 ≤ i
      some_fit = go (dec_le 1 i)
        where
          go : Dec (1 ≤ i) → 1 ≤ i
          go (yes l) = l
          go (no l) = absurd (not-le_of_lt (misses 0 (omega arith) (omega (arith, all_places, some_places))) at_first)

      pub place_found : i ≤ length chart → (i - 1 ≡ place_of P t) × (i - 1 < place_count)
      place_found l =
          let one = some_fit in
          let short : i - 1 < place_count = omega (arith, all_places) in
          let next : i - 1 + 1 ≡ i = omega arith in (
            sym (place_is P t (i - 1) short (fits (i - 1) (omega arith) l) (λ m. rw next (misses i (omega arith) (omega (arith, all_places))))),
            short,
          )

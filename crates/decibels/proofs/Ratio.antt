-- D goes by the ratio P / E alone, and never against it: a smaller error has no smaller D. Assumes nothing.
use mathlib.Core.Path.{◌≡◌, refl}
use Prim.Native.Nat.{ℕ, ◌+◌, ◌*◌, ◌^◌, ◌≤◌, ◌<◌}
use native.Mathlib.Nat.{le_trans, le_antisymm, le_of_eq, mul_comm, mul_assoc, mul_left_comm, mul-le-mul_left, mul-le-mul_right, le_of_mul-le-mul_right}
use native.Mathlib.Decide.{dec_lt}
use native.Mathlib.Omega.{arith}
use Rattle.decibels.specs.Hundredths.{place_count, chart_unit, entry_of, power_of, place_of, hundredths_of}
use Rattle.decibels.proofs.Places.{power_largest, place_largest}

ruleset shuffled = (mul_assoc, mul_comm, mul_left_comm)

-- of two ratios the larger keeps what the smaller has
keeps : (P E P' E' x T : ℕ) → 1 ≤ E' → P' * E ≤ P * E' → x * E' ≤ P' * T → x * E ≤ P * T
keeps P E P' E' x T some ratio has =
    let a : x * E * E' ≡ x * E' * E = simp shuffled refl in
    let b : P' * T * E ≡ P' * E * T = simp shuffled refl in
    let c : P * E' * T ≡ P * T * E' = simp shuffled refl in
    le_of_mul-le-mul_right {k = E'}
    (le_trans (le_of_eq a) (le_trans (mul-le-mul_right E has) (le_trans (le_of_eq b) (le_trans (mul-le-mul_right T ratio) (le_of_eq c))))) some

module _ (P E P' E' : ℕ) (some : 1 ≤ E) (below : E ≤ P) (some' : 1 ≤ E') (below' : E' ≤ P') (ratio : P' * E ≤ P * E') where
  abbrev q : ℕ
  q = power_of P E

  abbrev q' : ℕ
  q' = power_of P' E'

  power_kept : q' ≤ q
  power_kept =
      let has : 10 ^ q' * E' ≤ P' * 1 = omega (arith, (power_largest P' E' some' below').0) in
      (power_largest P E some below).1 q' (omega (arith, keeps P E P' E' (10 ^ q') 1 some' ratio has))

  place_kept : q ≡ q' → place_of P' (10 ^ q' * E') ≤ place_of P (10 ^ q * E)
  place_kept e =
      let f = place_largest P' (10 ^ q' * E') (power_largest P' E' some' below').0 in
      let k = place_of P' (10 ^ q' * E') in
      let has : entry_of k * 10 ^ q' * E' ≤ P' * chart_unit = rw (mul_assoc (entry_of k) (10 ^ q') E') f.1 in
      let kept : entry_of k * (10 ^ q * E) ≤ P * chart_unit =
      rw (e, ← (mul_assoc (entry_of k) (10 ^ q') E)) (keeps P E P' E' (entry_of k * 10 ^ q') chart_unit some' ratio has) in
      (place_largest P (10 ^ q * E) (power_largest P E some below).0).2 k f.0 kept

  pub by_ratio : hundredths_of P' E' ≤ hundredths_of P E
  unfolding hundredths_of
  by_ratio = go (dec_lt q' q)
    where
      go : Dec (q' < q) → place_count * q' + place_of P' (10 ^ q' * E') ≤ place_count * q + place_of P (10 ^ q * E)
      go (yes l) =
          let less : place_count * (q' + 1) ≤ place_count * q = mul-le-mul_left place_count (omega arith) in
          omega (arith, (place_largest P' (10 ^ q' * E') (power_largest P' E' some' below').0).0)
      go (no l) =
          let e : q ≡ q' = le_antisymm (omega arith) power_kept in
          let more : place_count * q' ≤ place_count * q = mul-le-mul_left place_count power_kept in
          omega (arith, place_kept e)

-- Idle taps: no lawful kernel ends in one, and what was lawful but for them is lawful without them. Assumes nothing.
use mathlib.Core.Path.{◌≡◌, refl, sym, ap, ◌∙◌}
use mathlib.Core.Bool.{Bool, true, false, ◌&&◌, and_assoc}
use mathlib.Core.Logic.{◌⊎◌, inl, inr}
use mathlib.Core.List.{List, [], ◌∷◌, ◌++◌}
use Prim.Native.Nat.{ℕ, zero, suc, ◌+◌, ◌-◌, ◌*◌, ◌/◌, ◌≤◌, ◌<◌}
use native.Mathlib.Nat.{zero-add, not-suc-le-zero}
use native.Mathlib.Decide.{dec_lt}
use native.Mathlib.Omega.{arith}
use lib.ListN.{length, replicate, take, drop, length-append, length-replicate, length-take, length-drop, get_or-append, get_or-eq_default}
use lib.Seq.{get_or-append-add, get_or-take, get_or-drop, ext_get_or}
use Rattle.refusal.proofs.Chain.{and_left, and_right}
use Rattle.plane.specs.Sums.{sum_to}
use Rattle.plane.proofs.Sums.{sum_zero, sum_tail, sum_split, sum_ext}
use Rattle.kernel.specs.Kernel.{tap, lent_total, odd_count, taps_suit, sums_to, mirrored, middled, ended, lawful}
use Rattle.kernel.proofs.Computed.{computed}
use Rattle.kernel.proofs.Says.{kernel_says, says_lawful, odd_says, taps_say, sums_say, mirror_says, middle_says}

-- ---- the rule

-- both ends of a lawful kernel count
pub no_idle_ends : (total : ℕ) (ker : List ℕ) → lawful total ker ≡ true → (1 ≤ tap ker 0) × (1 ≤ tap ker (length ker - 1))
no_idle_ends total ker ok =
    let says = kernel_says total ker ok in
    let last : length ker - 1 - 0 ≡ length ker - 1 = omega arith in
    (says.ends, omega (arith, says.ends, says.mirror 0 (omega (arith, says.odd)), ap (tap ker) last))

-- so an end of 0 is refused, whichever it is
pub idle_refused : (total : ℕ) (ker : List ℕ) → (tap ker 0 ≡ 0) ⊎ (tap ker (length ker - 1) ≡ 0) → lawful total ker ≡ false
idle_refused total ker idle = go (lawful total ker) refl idle
  where
    go : (b : Bool) → lawful total ker ≡ b → (tap ker 0 ≡ 0) ⊎ (tap ker (length ker - 1) ≡ 0) → b ≡ false
    go false e z = refl
    go true e (inl z) = absurd (omega (arith, (no_idle_ends total ker e).0, z))
    go true e (inr z) = absurd (omega (arith, (no_idle_ends total ker e).1, z))

-- the kernel of one tap
pub one_tap : lawful lent_total (lent_total ∷ []) ≡ true
unfolding computed
one_tap = refl

-- ---- a kernel with k idle taps more at each end
abbrev pub padded : ℕ → List ℕ → List ℕ
padded k ker = replicate k 0 ++ (ker ++ replicate k 0)

-- a tap past the last is 0, written or not
zeros : (k i : ℕ) → tap (replicate k 0) i ≡ 0
zeros zero i = refl
zeros (suc k) zero = refl
zeros (suc k) (suc i) = zeros k i

zeros_after : (k : ℕ) (ker : List ℕ) (i : ℕ) → tap (ker ++ replicate k 0) i ≡ tap ker i
zeros_after k [] i = zeros k i
zeros_after k (t ∷ ker) zero = refl
zeros_after k (t ∷ ker) (suc i) = zeros_after k ker i

module _ (k : ℕ) (ker : List ℕ) where
  pub padded_length : length (padded k ker) ≡ k + (length ker + k)
  padded_length =
      rw (length-append (replicate k 0) (ker ++ replicate k 0), length-append ker (replicate k 0), length-replicate {A = ℕ} k 0)

  -- its taps are those of ker, k further on, and 0 on both sides of them
  pub padded_tap : (i : ℕ) → tap (padded k ker) (k + i) ≡ tap ker i
  padded_tap i = (rw (length-replicate {A = ℕ} k 0) at (get_or-append-add (replicate k 0) (ker ++ replicate k 0) i 0)) ∙ zeros_after k ker i

  padded_before : (i : ℕ) → i < k → tap (padded k ker) i ≡ 0
  padded_before i l = get_or-append (replicate k 0) _ 0 i (rw (length-replicate {A = ℕ} k 0) l) ∙ zeros k i

  -- a sum of which no term is left where the tap is 0
  pub padded_sum : (f : ℕ → ℕ) → ((i : ℕ) → tap (padded k ker) i ≡ 0 → f i ≡ 0)
      → sum_to f (length (padded k ker)) ≡ sum_to (λ (i : ℕ). f (k + i)) (length ker)
  padded_sum f idle =
      rw padded_length
      (sum_split f k (length ker + k)
      ∙ rw (sum_zero f k (λ i l. idle i (padded_before i l)), zero-add)
      (sum_tail (λ (i : ℕ). f (k + i)) (length ker) (length ker + k) (omega arith)
      (λ i l m. idle (k + i) (padded_tap i ∙ get_or-eq_default ker 0 l))))

-- ---- what the test of the ends takes away, and how it is had back

-- every test but that of the ends
abbrev pub but_ends : ℕ → List ℕ → Bool
but_ends total ker = odd_count ker && (taps_suit total ker && (sums_to total ker && (mirrored ker && middled ker)))

pub narrower : (total : ℕ) (ker : List ℕ) → lawful total ker ≡ (but_ends total ker && ended ker)
unfolding lawful
narrower total ker = rw (and_assoc, and_assoc, and_assoc, and_assoc)

-- without idle taps, such a kernel is lawful
pub trimmed_lawful : (total k : ℕ) (ker : List ℕ) → but_ends total (padded k ker) ≡ true → 1 ≤ tap ker 0 → lawful total ker ≡ true
trimmed_lawful total k ker e ends =
    let ker' = padded k ker in
    let e1 = and_right (odd_count ker') _ e in
    let e2 = and_right (taps_suit total ker') _ e1 in
    let e3 = and_right (sums_to total ker') _ e2 in
    let odd = odd_says ker' (and_left (odd_count ker') _ e) in
    let long = padded_length k ker in
    says_lawful total ker
    (record {
      odd = omega (arith, odd.0, long);
      short = omega (arith, odd.1, long);
      range = λ i l. rw (← padded_tap k ker i) (taps_say total ker' (and_left (taps_suit total ker') _ e1) (k + i) (omega (arith, l, long)));
      sum =
          sym (sum_ext _ _ (length ker) (λ i l. padded_tap k ker i))
          ∙ sym (padded_sum k ker (tap ker') (λ i z. z))
          ∙ sums_say total ker' (and_left (sums_to total ker') _ e2);
      mirror = λ i l.
          let far : length ker' - 1 - (k + i) ≡ k + (length ker - 1 - i) = omega (arith, l, long) in
          sym (padded_tap k ker i)
          ∙ mirror_says ker' (and_left (mirrored ker') _ e3) (k + i) (omega (arith, l, long))
          ∙ ap (tap ker') far
          ∙ padded_tap k ker (length ker - 1 - i);
      middle =
          let half : length ker' / 2 ≡ k + length ker / 2 = omega (arith, long) in
          rw (← padded_tap k ker (length ker / 2), ← half) (middle_says ker' (and_right (mirrored ker') _ e3));
      ends = ends;
    })

-- the first of the numbers below m that is not 0, if there is one
record First (f : ℕ → ℕ) (m : ℕ) : Type 0 where
  place : ℕ
  below : place < m
  some : 1 ≤ f place
  none : (i : ℕ) → i < place → f i ≡ 0

first : (f : ℕ → ℕ) (m : ℕ) → First f m ⊎ ((i : ℕ) → i < m → f i ≡ 0)
first f zero = inr (λ i l. absurd (not-suc-le-zero l))
first f (suc m) = go (first f m) (dec_lt 0 (f m))
  where
    go : First f m ⊎ ((i : ℕ) → i < m → f i ≡ 0) → Dec (0 < f m) → First f (suc m) ⊎ ((i : ℕ) → i < suc m → f i ≡ 0)
    go (inl r) d = inl (record { place = r.place; below = omega (arith, r.below); some = r.some; none = r.none })
    go (inr z) (yes l) = inl (record { place = m; below = omega arith; some = l; none = z })
    go (inr z) (no n) = inr (λ i l. last i l (dec_lt i m))
      where
        last : (i : ℕ) → i < suc m → Dec (i < m) → f i ≡ 0
        last i l (yes k) = z i k
        last i l (no k) = let e : i ≡ m = omega arith in rw e (omega arith)

module _ (total : ℕ) (ker : List ℕ) (e : but_ends total ker ≡ true) where
  abbrev shaped : (mirrored ker && middled ker) ≡ true
  shaped = and_right (sums_to total ker) _ (and_right (taps_suit total ker) _ (and_right (odd_count ker) _ e))

  -- k taps less at each end
  abbrev inside : ℕ → List ℕ
  inside k = take (length ker - 2 * k) (drop k ker)

  inside_length : (k : ℕ) → 2 * k < length ker → length (inside k) ≡ length ker - 2 * k
  inside_length k l = rw (length-take, length-drop) (omega arith)

  -- where k taps are 0 they are those that are left off
  inside_padded : (k : ℕ) → 2 * k < length ker → ((i : ℕ) → i < k → tap ker i ≡ 0) → ker ≡ padded k (inside k)
  inside_padded k l none = ext_get_or 0 ker (padded k (inside k)) (omega (arith, padded_length k (inside k), long)) (λ i m. at i m (dec_lt i k) (dec_lt i (length ker - k)))
    where
      long : length (inside k) ≡ length ker - 2 * k
      long = inside_length k l

      at : (i : ℕ) → i < length ker → Dec (i < k) → Dec (i < length ker - k) → tap ker i ≡ tap (padded k (inside k)) i
      at i m (yes b) d = none i b ∙ sym (padded_before k (inside k) i b)
      at i m (no b) (yes c) =
          let there : k + (i - k) ≡ i = omega arith in
          ap (tap ker) (sym there)
          ∙ sym (get_or-drop k ker (i - k) 0)
          ∙ sym (get_or-take (length ker - 2 * k) (drop k ker) (i - k) 0 (omega arith))
          ∙ sym (padded_tap k (inside k) (i - k))
          ∙ ap (tap (padded k (inside k))) there
      at i m (no b) (no c) =
          let there : k + (i - k) ≡ i = omega arith in
          mirror_says ker (and_left (mirrored ker) _ shaped) i m
          ∙ none (length ker - 1 - i) (omega arith)
          ∙ sym (get_or-eq_default (inside k) 0 {n = i - k} (omega (arith, long)))
          ∙ sym (padded_tap k (inside k) (i - k))
          ∙ ap (tap (padded k (inside k))) there

  -- each such kernel is a lawful one with idle taps about it
  pub mended : (k : ℕ) × (inner : List ℕ) × (ker ≡ padded k inner) × (lawful total inner ≡ true)
  mended = go (first (tap ker) (length ker / 2 + 1))
    where
      go : First (tap ker) (length ker / 2 + 1) ⊎ ((i : ℕ) → i < length ker / 2 + 1 → tap ker i ≡ 0)
          → (k : ℕ) × (inner : List ℕ) × (ker ≡ padded k inner) × (lawful total inner ≡ true)
      go (inr zero_all) = absurd (omega (arith, middle_says ker (and_right (mirrored ker) _ shaped), zero_all (length ker / 2) (omega arith)))
      go (inl r) =
          let k = r.place in
          let l : 2 * k < length ker = omega (arith, r.below, (odd_says ker (and_left (odd_count ker) _ e)).0) in
          let same = inside_padded k l r.none in
          let none : k + 0 ≡ k = omega arith in
          let end : tap (inside k) 0 ≡ tap ker k = get_or-take (length ker - 2 * k) (drop k ker) 0 0 (omega arith) ∙ get_or-drop k ker 0 0 ∙ ap (tap ker) none in
          (k, inside k, same, trimmed_lawful total k (inside k) (ap (but_ends total) (sym same) ∙ e) (omega (arith, end, r.some)))

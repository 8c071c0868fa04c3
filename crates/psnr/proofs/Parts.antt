-- Laws of the sums and bits of two rows, of their parts, and of what a walk over them finds. Assumes nothing.
use Rattle.std.proofs.Common.{◌≡◌, ℕ, zero, suc, ◌+◌, ◌-◌, ◌*◌, ◌%◌, ◌^◌, ◌<◌, ◌≤◌, min, Bool, true, false, List, [], ◌++◌, length, get_or, take, drop, sym, refl, ap, ◌∙◌, subst, ap₂, le_refl}
use Rattle.std.proofs.Common.{lt_of_le_of_lt, mul-le-mul_right, mod-eq_of_lt, mul-le-mul, mul-lt-mul_of_pos_right, one-mul, add-one, arith, leb, lit<, pow_pos, pow_mono}
use Rattle.std.proofs.Common.{pow-add, shl_exact, lt_of_le_ones}
use Rattle.std.proofs.lemmas.List.{drop-drop, drop_all, length-append, length-drop, take_all}
use borrow.Author.Tests.{leb-true, leb-false}
use Rattle.refusal.specs.declared.Refusal.{Refusal}
use Rattle.std.proofs.Math.Seq.{take-append_seam, drop-append_seam}
use Rattle.std.specs.Simd.{first_chunks}
use native.Mathlib.Nat.{mul-lt-mul_of_pos_left, mod-add-mod}
use native.Mathlib.Decide.{dec_lt}
use lib.Bits.{bit_or, or_lt, or_add_and, and_le_l, and_le_r}
use lib.Pow.{le_ones}
use Rattle.refusal.proofs.Chain.{and_left, and_right}
use Rattle.plane.specs.Limits.{side_limit, most_depth}
use Rattle.plane.specs.Plane.{at, max_of}
use Rattle.plane.specs.Sums.{sum_to}
use Rattle.plane.specs.Tests.{none_above}
use Rattle.plane.proofs.All.{none_none, none_at, none_holds}
use Rattle.plane.proofs.Depth.{max_small}
use Rattle.plane.proofs.Limits.{side_small}
use lib.Seq.{length-take-le, get_or-take, get_or-drop}
use Rattle.plane.proofs.Sums.{sum_none, sum_more, sum_ext, sum_split, sum_bound}
use Rattle.std.specs.Prelude.{Ok, Err}
use Rattle.refusal.specs.declared.Refusal.TheVariants as no
use Rattle.psnr.specs.Squared.{square_of}
use Rattle.psnr.specs.Inner.Walk.{squares_in, bits_in, part_length, walked_if, pair_suits, row_walked}
use Rattle.psnr.proofs.Squares.{square_le}

-- ---- the parts of a row
-- that from one place up to another
abbrev cut : List ℕ → ℕ → ℕ → List ℕ
cut samples from to = take (to - from) (drop from samples)

module _ (samples : List ℕ) (from to : ℕ) where
  cut_length : from ≤ to → to ≤ length samples → length (cut samples from to) ≡ to - from
  cut_length l m = length-take-le (to - from) (drop from samples) (simp length-drop (omega arith))

  cut_at : (i : ℕ) → i < to - from → at (cut samples from to) i ≡ at samples (from + i)
  cut_at i l = get_or-take (to - from) (drop from samples) i 0 l ∙ get_or-drop from samples i 0

-- the k-th of its whole parts of n samples
chunk_cut : (n m k : ℕ) (xs : List ℕ) → k < m → get_or (first_chunks n m xs) k [] ≡ cut xs (k * n) (k * n + n)
chunk_cut n zero k xs l = absurd (omega arith)
chunk_cut n (suc m) zero xs l =
    let count : n ≡ 0 * n + n - 0 * n = omega arith in
    let from : 0 ≡ 0 * n = omega arith in
    ap₂ (λ (i : ℕ) (t : List ℕ). take i t) count (ap (λ (i : ℕ). drop i xs) from)
chunk_cut n (suc m) (suc k) xs l =
    let count : k * n + n - k * n ≡ suc k * n + n - suc k * n = omega arith in
    let from : n + k * n ≡ suc k * n = omega arith in
    chunk_cut n m k (drop n xs) (omega arith)
    ∙ ap₂ (λ (i : ℕ) (t : List ℕ). take i t) count (drop-drop (k * n) n xs ∙ ap (λ (i : ℕ). drop i xs) from)

pub chunk_length : (n m k : ℕ) (xs : List ℕ) {p : List ℕ} → k < m → k * n + n ≤ length xs → p ≡ get_or (first_chunks n m xs) k [] → length p ≡ n
chunk_length n m k xs l inside e =
    let count : k * n + n - k * n ≡ n = omega arith in
    rw (e, chunk_cut n m k xs l) (cut_length xs (k * n) (k * n + n) (omega arith) inside ∙ count)

-- and what is left after it
rest_cut : (from : ℕ) (xs : List ℕ) → drop from xs ≡ cut xs from (length xs)
rest_cut from xs = sym (take_all (length xs - from) (drop from xs) (rw length-drop (omega arith)))

-- a part that comes off the front of what is left from place x on, up to place `to`
part_cut : (xs : List ℕ) (x to : ℕ) {rest more p : List ℕ} → x + length p ≡ to → rest ≡ drop x xs → rest ≡ p ++ more
    → (p ≡ cut xs x to) × (more ≡ drop to xs)
part_cut xs x to {rest} {more} {p} e r s =
    let whole : p ++ more ≡ drop x xs = sym s ∙ r in
    let count : length p ≡ to - x = omega arith in (
      sym (take-append_seam p more) ∙ ap₂ (λ (i : ℕ) (t : List ℕ). take i t) count whole,
      sym (drop-append_seam p more)
          ∙ ap (λ (t : List ℕ). drop (length p) t) whole
          ∙ drop-drop (length p) x xs
          ∙ ap (λ (i : ℕ). drop i xs) e,
    )

-- and off two rows of one length at once, each no longer than the size
pub record PartTaken (a b p q more more' : List ℕ) (x to size : ℕ) : Type 0 where
  pub rising : x ≤ to
  pub inside : to ≤ length a
  pub short : to - x ≤ size
  pub first : p ≡ cut a x to
  pub second : q ≡ cut b x to
  pub first_left : more ≡ drop to a
  pub second_left : more' ≡ drop to b

pub part_taken : (a b : List ℕ) {rest rest' more more' p q : List ℕ} {size n n' : ℕ} → length a ≡ length b → n ≡ size → n' ≡ size
    → rest ≡ drop (length a - length rest) a → rest' ≡ drop (length a - length rest) b → rest ≡ p ++ more → rest' ≡ q ++ more'
    → length p ≡ min n (length rest) → length q ≡ min n' (length rest')
    → PartTaken a b p q more more' (length a - length rest) (length a - length more) size
part_taken a b {rest} {rest'} {more} {more'} {p} {q} e size size' r r' s s' k k' =
    let x = length a - length rest in
    let to = length a - length more in
    let left : length rest ≡ length a - x = ap length r ∙ length-drop x a in
    let left' : length rest' ≡ length b - x = ap length r' ∙ length-drop x b in
    let parts : length rest ≡ length p + length more = ap length s ∙ length-append p more in
    let first : x + length p ≡ to = omega arith in
    let second : x + length q ≡ to = omega arith in
    record {
      rising = omega arith;
      inside = omega arith;
      short = omega arith;
      first = (part_cut a x to first r s).0;
      second = (part_cut b x to second r' s').0;
      first_left = (part_cut a x to first r s).1;
      second_left = (part_cut b x to second r' s').1;
    }

-- rows that are one part
whole_taken : (a b : List ℕ) {size : ℕ} → length a ≡ length b → length a ≤ size → PartTaken a b a b [] [] 0 (length a) size
whole_taken a b e l =
    record {
      rising = omega arith;
      inside = le_refl _;
      short = omega arith;
      first = rest_cut 0 a;
      second = rw e (rest_cut 0 b);
      first_left = sym (drop_all (length a) a (le_refl _));
      second_left = sym (drop_all (length a) b (omega arith));
    }

-- ---- the sum
module _ (a b : List ℕ) where
  pub in_none : squares_in a b 0 ≡ 0
  unfolding squares_in
  in_none = sum_none _

  in_more : (x : ℕ) → squares_in a b (x + 1) ≡ squares_in a b x + square_of (at a x) (at b x)
  unfolding squares_in
  in_more x = sum_more _ x

  pub in_next : (x : ℕ) {sum square : ℕ} → sum ≡ squares_in a b x → square ≡ square_of (at a x) (at b x)
      → sum + square ≡ squares_in a b (x + 1)
  in_next x s q = ap₂ (λ (t u : ℕ). t + u) s q ∙ sym (in_more x)

  -- with a part more
  in_cut : (from to : ℕ) {sum part : ℕ} → from ≤ to → to ≤ length a → sum ≡ squares_in a b from
      → part ≡ squares_in (cut a from to) (cut b from to) (length (cut a from to)) → sum + part ≡ squares_in a b to
  unfolding squares_in
  in_cut from to l m s q =
      let n : from + (to - from) ≡ to = omega arith in
      let whole = sum_split (λ (x : ℕ). square_of (at a x) (at b x)) from (to - from) in
      let part = sum_ext _ (λ (x : ℕ). square_of (at a (from + x)) (at b (from + x))) (to - from)
      (λ i k. ap₂ square_of (cut_at a from to i k) (cut_at b from to i k)) in
      ap₂ (λ (t u : ℕ). t + u) s (q ∙ ap (sum_to _) (cut_length a from to l m) ∙ part) ∙ sym whole ∙ ap (sum_to _) n

  -- with a whole part of n samples more, or with what is left after them
  pub in_chunk : (n k : ℕ) {m m' to : ℕ} {p q : List ℕ} {sum part : ℕ} → k < m → k < m' → k * n + n ≡ to → to ≤ length a
      → p ≡ get_or (first_chunks n m a) k [] → q ≡ get_or (first_chunks n m' b) k []
      → sum ≡ squares_in a b (k * n) → part ≡ squares_in p q (length p) → sum + part ≡ squares_in a b to
  in_chunk n k {m} {m'} {to} l l' e inside ep eq s v =
      in_cut (k * n) to (omega arith) inside s (rw (ep, eq, chunk_cut n m k a l, chunk_cut n m' k b l', e) at v)

  pub in_rest : (from : ℕ) {p q : List ℕ} {sum part : ℕ} → from ≤ length a → length a ≡ length b → p ≡ drop from a → q ≡ drop from b
      → sum ≡ squares_in a b from → part ≡ squares_in p q (length p) → sum + part ≡ squares_in a b (length a)
  in_rest from l e ep eq s v =
      in_cut from (length a) l (le_refl _) s (rw (ep, eq, rest_cut from a, rest_cut from b, ← e) at v)

  -- with a sample more, in a word that wraps round
  pub in_wrapped : (x : ℕ) {sum square more : ℕ} → sum ≡ squares_in a b x % 2 ^ 32 → square ≡ square_of (at a x) (at b x)
      → more ≡ (sum + square) % 2 ^ 32 → more ≡ squares_in a b (x + 1) % 2 ^ 32
  in_wrapped x s q m =
      m
      ∙ ap₂ (λ (t u : ℕ). (t + u) % 2 ^ 32) s q
      ∙ mod-add-mod (squares_in a b x) (2 ^ 32) _
      ∙ ap (λ (t : ℕ). t % 2 ^ 32) (sym (in_more x))

  -- where no sample is above m
  in_le : (m n : ℕ) → ((i : ℕ) → i < n → (at a i ≤ m) × (at b i ≤ m)) → squares_in a b n ≤ n * (m * m)
  unfolding squares_in
  in_le m n small = sum_bound _ (m * m) n (λ i l. square_le m _ _ (small i l).0 (small i l).1)

-- ---- the bits
or_small : (d a b : ℕ) → bit_or a b < 2 ^ d → (a < 2 ^ d) × (b < 2 ^ d)
or_small d a b l = (omega (arith, l, or_add_and a b, and_le_r a b), omega (arith, l, or_add_and a b, and_le_l a b))

module _ (a b : List ℕ) where
  -- none of the first n samples has a bit beyond the lowest d
  abbrev Low : ℕ → ℕ → Type 0
  Low d n = (i : ℕ) → i < n → (at a i < 2 ^ d) × (at b i < 2 ^ d)

  pub bits_none : bits_in a b 0 ≡ 0
  unfolding bits_in
  bits_none = refl

  pub bits_next : (x : ℕ) {bits : ℕ} → bits ≡ bits_in a b x → bit_or bits (bit_or (at a x) (at b x)) ≡ bits_in a b (x + 1)
  unfolding bits_in
  bits_next x e = rw (add-one, ← e)

  bits_say : (d n : ℕ) → bits_in a b n < 2 ^ d → Low d n
  unfolding bits_in
  bits_say d zero h i l = absurd (omega arith)
  bits_say d (suc n) h i l = go (bits_say d n (or_small d (bits_in a b n) _ h).0 i) (dec_lt i n)
    where
      go : (i < n → (at a i < 2 ^ d) × (at b i < 2 ^ d)) → Dec (i < n) → (at a i < 2 ^ d) × (at b i < 2 ^ d)
      go less (yes m) = less m
      go less (no m) =
          let e : i ≡ n = omega arith in
          rw e (or_small d (at a n) (at b n) (or_small d (bits_in a b n) (bit_or (at a n) (at b n)) h).1)

  bits_lt : (d n : ℕ) → Low d n → bits_in a b n < 2 ^ d
  unfolding bits_in
  bits_lt d zero low = pow_pos d
  bits_lt d (suc n) low =
      let last = low n (omega arith) in
      or_lt d _ _ (bits_lt d n (λ i l. low i (omega arith))) (or_lt d _ _ last.0 last.1)

-- ---- how many squares fit 32 bits
next_square : (m : ℕ) → m * m < (m + 1) * (m + 1)
next_square m =
    let l : m ≤ m + 1 = omega arith in
    lt_of_le_of_lt (mul-le-mul (le_refl m) l) (mul-lt-mul_of_pos_right {m = m} {n = m + 1} {k = m + 1} (omega arith) (omega arith))

depth_half : {depth : ℕ} → depth ≤ most_depth true → 2 * depth ≤ 32
unfolding most_depth
depth_half l = omega arith

pub part_shifted : (depth : ℕ) → 1 * 2 ^ (32 - 2 * depth) % 2 ^ 64 ≡ part_length depth
unfolding part_length
part_shifted depth = shl_exact {a = 1} 1 (32 - 2 * depth) 64 (lit< tt) (omega arith) ∙ one-mul _

-- at least one, and no more than so many as can be counted in 32 bits
pub part_some : (depth : ℕ) → (1 ≤ part_length depth) × (part_length depth ≤ 2 ^ 32)
unfolding part_length
part_some depth = (pow_pos (32 - 2 * depth), pow_mono {i = 32 - 2 * depth} {j = 32} (omega arith))

part_room : (depth : ℕ) → 2 * depth ≤ 32 → part_length depth * (max_of depth * max_of depth) < 2 ^ 32
unfolding part_length max_of
part_room depth l =
    let one : 2 ^ depth - 1 + 1 ≡ 2 ^ depth = omega (arith, pow_pos depth) in
    let less = rw one at (next_square (2 ^ depth - 1)) in
    let sum : 32 - 2 * depth + (depth + depth) ≡ 32 = omega arith in
    let whole : 2 ^ (32 - 2 * depth) * (2 ^ depth * 2 ^ depth) ≡ 2 ^ 32 =
    ap (λ (t : ℕ). 2 ^ (32 - 2 * depth) * t) (sym (pow-add 2 depth depth))
    ∙ sym (pow-add 2 (32 - 2 * depth) (depth + depth))
    ∙ ap (λ (t : ℕ). 2 ^ t) sum in
    let m = 2 ^ depth - 1 in
    subst (λ (t : ℕ). 2 ^ (32 - 2 * depth) * (m * m) < t) whole (mul-lt-mul_of_pos_left less (pow_pos (32 - 2 * depth)))

-- ---- what is found
module _ (depth : ℕ) (a b : List ℕ) where
  pub suits_none : pair_suits depth a b 0 ≡ true
  suits_none = rw (none_none (max_of depth) (at a), none_none (max_of depth) (at b))

  suits_at : (n : ℕ) → pair_suits depth a b n ≡ true → (i : ℕ) → i < n → (at a i ≤ max_of depth) × (at b i ≤ max_of depth)
  suits_at n e i l =
      (none_at _ (at a) n (and_left _ _ e) i l, none_at _ (at b) n (and_right (none_above (max_of depth) (at a) n) _ e) i l)

  pub suits_holds : (n : ℕ) → ((i : ℕ) → i < n → (at a i ≤ max_of depth) × (at b i ≤ max_of depth)) → pair_suits depth a b n ≡ true
  suits_holds n h = rw (none_holds (max_of depth) (at a) n (λ i l. (h i l).0), none_holds (max_of depth) (at b) n (λ i l. (h i l).1))

  -- then the sum is far below 64 bits
  pub suits_small : (n : ℕ) → depth ≤ most_depth true → n ≤ side_limit → pair_suits depth a b n ≡ true → squares_in a b n < 2 ^ 40
  suits_small n d l e =
      let m : max_of depth ≤ 2 ^ 12 = omega (arith, max_small true d) in
      let side : n ≤ 2 ^ 14 = omega (arith, side_small) in
      omega (arith, in_le a b (max_of depth) n (suits_at n e), mul-le-mul side (mul-le-mul m m))

-- a part of two rows, of which the bits are known
module _ (depth : ℕ) (a b : List ℕ) (from to : ℕ) (l : from ≤ to) (m : to ≤ length a) where
  abbrev bits_of : ℕ
  bits_of = bits_in (cut a from to) (cut b from to) (length (cut a from to))

  abbrev sum_of : ℕ
  sum_of = squares_in (cut a from to) (cut b from to) (length (cut a from to))

  -- no bit is too high: no sample is above
  cut_low : bits_of ≤ max_of depth → (i : ℕ) → from ≤ i → i < to → (at a i ≤ max_of depth) × (at b i ≤ max_of depth)
  unfolding max_of
  cut_low h i k n =
      let e : from + (i - from) ≡ i = omega arith in
      let low = bits_say (cut a from to) (cut b from to) depth _ (lt_of_le_ones depth h) (i - from) (rw (cut_length a from to l m) (omega arith)) in
      let first = rw (cut_at a from to (i - from) (omega arith), e) at low.0 in
      let second = rw (cut_at b from to (i - from) (omega arith), e) at low.1 in
      (le_ones depth first, le_ones depth second)

  cut_suits : pair_suits depth a b from ≡ true → bits_of ≤ max_of depth → pair_suits depth a b to ≡ true
  cut_suits before h = suits_holds depth a b to (λ i n. go i n (dec_lt i from))
    where
      go : (i : ℕ) → i < to → Dec (i < from) → (at a i ≤ max_of depth) × (at b i ≤ max_of depth)
      go i n (yes k) = suits_at depth a b from before i k
      go i n (no k) = cut_low h i (omega arith) n

  -- one is: so is a sample of the row
  cut_breaks : max_of depth < bits_of → pair_suits depth a b (length a) ≡ true → ⊥
  unfolding max_of
  cut_breaks h e =
      let small = suits_at depth a b (length a) e in
      let low = bits_lt (cut a from to) (cut b from to) depth (length (cut a from to)) (λ i k.
      let n : i < to - from = rw (cut_length a from to l m) at k in
      let at_i = small (from + i) (omega arith) in
      (rw (cut_at a from to i n) (lt_of_le_ones depth at_i.0), rw (cut_at b from to i n) (lt_of_le_ones depth at_i.1))) in
      absurd (omega (arith, low, h))

  -- and where no bit is too high and the part is short enough, 32 bits hold its sum
  cut_whole : 2 * depth ≤ 32 → to - from ≤ part_length depth → bits_of ≤ max_of depth → sum_of % 2 ^ 32 ≡ sum_of
  cut_whole d n h =
      let max = max_of depth in
      let same = cut_length a from to l m in
      let le = in_le (cut a from to) (cut b from to) max (length (cut a from to)) (λ i k.
      let n : i < to - from = rw same at k in
      let at_i = cut_low h (from + i) (omega arith) (omega arith) in
      (rw (cut_at a from to i n) at_i.0, rw (cut_at b from to i n) at_i.1)) in
      mod-eq_of_lt (lt_of_le_of_lt le (lt_of_le_of_lt (mul-le-mul_right (max * max) (rw same n)) (part_room depth d)))

-- a part taken off both rows
module _ (depth : ℕ) {a b p q more more' : List ℕ} {x to size bits : ℕ} (t : PartTaken a b p q more more' x to size)
    (e : bits ≡ bits_in p q (length p)) where
  pub taken_suits : pair_suits depth a b x ≡ true → bits ≤ max_of depth → pair_suits depth a b to ≡ true
  taken_suits before h = cut_suits depth a b x to t.rising t.inside before (rw (← t.first, ← t.second, ← e) h)

  pub taken_breaks : max_of depth < bits → pair_suits depth a b (length a) ≡ true → ⊥
  taken_breaks h = cut_breaks depth a b x to t.rising t.inside (rw (← t.first, ← t.second, ← e) h)

  pub taken_adds : depth ≤ most_depth true → size ≡ part_length depth → bits ≤ max_of depth → {sum part : ℕ} → sum ≡ squares_in a b x
      → part ≡ squares_in p q (length p) % 2 ^ 32 → sum + part ≡ squares_in a b to
  taken_adds d n h s v =
      let whole = cut_whole depth a b x to t.rising t.inside (depth_half d) (omega (arith, t.short, n)) (rw (← t.first, ← t.second, ← e) h) in
      in_cut a b x to t.rising t.inside s (rw (t.first, t.second) at v ∙ whole)

-- ---- the answer
pub found_above : (suit : Bool) (sum : ℕ) → (suit ≡ true → ⊥) → Err no.Sample ≡ walked_if suit sum
found_above true sum h = absurd (h refl)
found_above false sum h = refl

pub found_sum : {suit : Bool} {sum whole : ℕ} → suit ≡ true → sum ≡ whole → Ok sum ≡ walked_if suit whole
found_sum {suit} {sum} {whole} s e = ap Ok e ∙ ap (λ (t : Bool). walked_if t whole) (sym s)

-- what is told of a part
pub told_ok : {bits max sum v : ℕ} → Ok v ≡ walked_if (leb bits max) sum → (bits ≤ max) × (v ≡ sum)
told_ok {bits} {max} {sum} {v} e = go (leb bits max) refl e
  where
    go : (t : Bool) → leb bits max ≡ t → Ok v ≡ walked_if t sum → (bits ≤ max) × (v ≡ sum)
    go true q e = (leb-true bits max q, cc)
    go false q e = cc

pub told_err : {bits max : ℕ} {r : Refusal} (sum : ℕ) → Err r ≡ walked_if (leb bits max) sum → (max < bits) × (r ≡ no.Sample)
told_err {bits} {max} {r} sum e = go (leb bits max) refl e
  where
    go : (t : Bool) → leb bits max ≡ t → Err r ≡ walked_if t sum → (max < bits) × (r ≡ no.Sample)
    go true q e = cc
    go false q e = (leb-false bits max q, cc)

-- of rows that are one part that is all there is to tell
pub whole_walked : (depth : ℕ) (a b : List ℕ) {bits sum max size : ℕ} → length a ≡ length b → length a ≤ size → depth ≤ most_depth true
    → size ≡ part_length depth → max ≡ max_of depth → bits ≡ bits_in a b (length a) → sum ≡ squares_in a b (length a) % 2 ^ 32
    → walked_if (leb bits max) sum ≡ row_walked depth a b (length a)
unfolding row_walked
whole_walked depth a b {bits} {sum} {max} {size} e l d n m eb es = go (leb bits max) refl
  where
    go : (t : Bool) → leb bits max ≡ t → walked_if t sum ≡ walked_if (pair_suits depth a b (length a)) (squares_in a b (length a))
    go true q =
        let t = whole_taken a b e l in
        let low : bits ≤ max_of depth = rw m at (leb-true bits max q) in
        let whole : 0 + sum ≡ squares_in a b (length a) = taken_adds depth t eb d n low (sym (in_none a b)) es in
        let same : sum ≡ squares_in a b (length a) = omega (arith, whole) in
        found_sum (taken_suits depth t eb (suits_none depth a b) low) same
    go false q =
        let t = whole_taken a b e l in
        let above : max_of depth < bits = rw m at (leb-false bits max q) in
        found_above _ _ (taken_breaks depth t eb above)

-- a sum and its bits, counted up
pub ruleset part_steps = (in_none, in_next, in_wrapped, bits_none, bits_next)

-- The test of a range, and what a list that passed it tells of sizes. Assumes nothing.
use mathlib.Core.Path.{◌≡◌, refl, ap, ◌∙◌}
use mathlib.Core.Bool.{Bool, true, false, ◌&&◌}
use mathlib.Core.List.{List, [], ◌∷◌}
use Prim.Native.Nat.{ℕ, zero, suc, ◌+◌, ◌<◌, ◌^◌}
use native.Mathlib.Omega.{arith}
use native.Mathlib.Numerals.{add-one}
use lib.Dec.{T, leb}
use lib.IntN.{ℤ, pos, negsuc, neg_ℤ, nat_abs}
use lib.ListN.{length, get_or, drop}
use lib.Seq.{drop-cons}
use lib.Signed.{lt_z, non_neg}
use mir.Syntax.{w32}
use mir.Val.{SFits}
use borrow.Author.Tests.{ltb-true, ltb-false, le-leb, lt-leb, leb-true}
use Rattle.lifting.specs.Inner.Within.{AllWithin}
use Rattle.dct.specs.Call.{all_within}

-- ---- one number

pub below : (l : ℤ) → T (non_neg l) → SFits w32 l → nat_abs l < 2 ^ 31
below (pos n) t f = f.sfits
below (negsuc n) t f = absurd t

pub low : (l v : ℤ) → T (non_neg l) → lt_z v (neg_ℤ l) ≡ true → leb (nat_abs v) (nat_abs l) ≡ false
low (pos zero) (pos m) t h = absurd (omega (arith, ltb-true m 0 h))
low (pos (suc n)) (pos m) t h = absurd (let z : ◌≡◌ {A = ℕ} 0 1 = cc in omega arith)
low (pos zero) (negsuc m) t h = lt-leb (suc m) 0 (omega arith)
low (pos (suc n)) (negsuc m) t h = lt-leb (suc m) (suc n) (omega (arith, ltb-true n m h))
low (negsuc n) v t h = absurd t

pub high : (l v : ℤ) → T (non_neg l) → lt_z l v ≡ true → leb (nat_abs v) (nat_abs l) ≡ false
high (pos n) (pos m) t h = lt-leb m n (ltb-true n m h)
high (pos n) (negsuc m) t h = absurd (let z : ◌≡◌ {A = ℕ} 0 1 = cc in omega arith)
high (negsuc n) v t h = absurd t

pub between : (l v : ℤ) → T (non_neg l) → lt_z v (neg_ℤ l) ≡ false → lt_z l v ≡ false → leb (nat_abs v) (nat_abs l) ≡ true
between (pos n) (pos m) t h k = le-leb m n (ltb-false n m k)
between (pos zero) (negsuc m) t h k = absurd (let z : ◌≡◌ {A = ℕ} 0 1 = cc in omega arith)
between (pos (suc n)) (negsuc m) t h k = le-leb (suc m) (suc n) (omega (arith, ltb-false n m h))
between (negsuc n) v t h k = absurd t

-- ---- the walk

module _ (n : ℕ) (x : List ℤ) (i : ℕ) (w : ℤ) (h : i < length x) (e : w ≡ get_or x i (pos 0)) where
  head : all_within n (drop i x) ≡ (leb (nat_abs w) n && all_within n (drop (suc i) x))
  head = ap (all_within n) (drop-cons x i (pos 0) h) ∙ rw e

  pub stop : leb (nat_abs w) n ≡ false → all_within n (drop i x) ≡ false
  stop p = head ∙ rw p

  pub next : leb (nat_abs w) n ≡ true → all_within n (drop i x) ≡ all_within n (drop (i + 1) x)
  next p = head ∙ rw (p, add-one)

-- ---- sizes

pub and_parts : (a b : Bool) → (a && b) ≡ true → (a ≡ true) × (b ≡ true)
and_parts true b p = (refl, p)
and_parts false b p = absurd (let z : ◌≡◌ {A = ℕ} 0 1 = cc in omega arith)

pub small : (n : ℕ) (v : List ℤ) → all_within n v ≡ true → AllWithin n v
small n [] p = tt
small n (a ∷ v) p =
    let q = and_parts (leb (nat_abs a) n) (all_within n v) p in
    (record { le = leb-true (nat_abs a) n q.0 }, small n v q.1)

pub is_within : (n : ℕ) (v : List ℤ) → AllWithin n v → all_within n v ≡ true
is_within n [] h = refl
is_within n (a ∷ v) h = rw (le-leb (nat_abs a) n h.0.le, is_within n v h.1)

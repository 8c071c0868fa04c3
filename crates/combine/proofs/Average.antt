-- The HVS figure is an average. Exactly: of one number three times it is that number, whatever c. In doubles, each step rounded: it lies between the
-- least and the largest of the three, but for a 2^50th part of these and two units, a unit being the smallest double above zero.
-- Assumes nothing.
use mathlib.Core.Path.{◌≡◌, refl, sym, ap, ap₂, ◌∙◌, subst}
use mathlib.Core.Logic.{◌⊎◌, inl, inr}
use mathlib.Core.Bool.{Bool, true, false, not}
use Prim.Native.Nat.{ℕ, zero, suc, ◌+◌, ◌*◌, ◌^◌, ◌≤◌, ◌<◌}
use native.Mathlib.Nat.{le_refl, mul-zero}
use native.Mathlib.Omega.{arith}
use lib.Dec.{T}
use lib.IntN.{ℤ, pos, negsuc, neg_ℤ, ◌+ℤ◌, ◌*ℤ◌, pos-+ℤ-pos, neg_ℤ-+ℤ, *ℤ-zero, pos-*ℤ-pos, pos-*ℤ-negsuc, negsuc-*ℤ-pos}
use lib.Ieee.{Float, nan, inf, fin, binary64, fits, le}
use lib.Ieee.Positive.{num, den, den_pos}
use lib.Ieee.Scale.{finite}
use Rattle.number.proofs.Parts.{part, le_parts}
use Rattle.combine.specs.declared.Planar.{Planar}
use Rattle.std.specs.Prelude.{Ok}
use Rattle.combine.specs.Combine.{visual_score, combinable, combined_refusal, score_for, combined_hvs_of}
use Rattle.combine.proofs.Joined.{total_most, total_least, out_most, out_least}
use Rattle.combine.proofs.Rounded.{Doubles, Answered, heft, parts, score_most, no_score, score_least}
use Rattle.combine.proofs.Weight.{numbers}

-- ---- the exact average

-- with c = p / q the exact average of y, u and v, counted in whole parts of any size, is this over q + 2p
abbrev pub weighted : ℕ → ℕ → ℤ → ℤ → ℤ → ℤ
weighted p q y u v = pos q *ℤ y +ℤ pos p *ℤ (u +ℤ v)

times_below : (p k : ℕ) → pos p *ℤ neg_ℤ (pos k) ≡ neg_ℤ (pos (p * k))
times_below p zero = *ℤ-zero (pos p) ∙ ap (λ (n : ℕ). neg_ℤ (pos n)) (sym (mul-zero p))
times_below p (suc k) = pos-*ℤ-negsuc p k

pub average_exact : (p q : ℕ) (x : ℤ) → weighted p q x x x ≡ x *ℤ pos (q + 2 * p)
average_exact p q (pos n) =
    ap₂ ◌+ℤ◌ (pos-*ℤ-pos q n) (ap (λ (z : ℤ). pos p *ℤ z) (pos-+ℤ-pos n n) ∙ pos-*ℤ-pos p (n + n))
    ∙ pos-+ℤ-pos (q * n) (p * (n + n)) ∙ ap pos {x = q * n + p * (n + n)} {y = n * (q + 2 * p)} (omega arith) ∙ sym (pos-*ℤ-pos n (q + 2 * p))
average_exact p q (negsuc n) =
    ap₂ ◌+ℤ◌ (pos-*ℤ-negsuc q n)
    (ap (λ (z : ℤ). pos p *ℤ z) (sym (neg_ℤ-+ℤ (pos (suc n)) (pos (suc n))) ∙ ap neg_ℤ (pos-+ℤ-pos (suc n) (suc n))) ∙ times_below p (suc n + suc n))
    ∙ sym (neg_ℤ-+ℤ (pos (q * suc n)) (pos (p * (suc n + suc n)))) ∙ ap neg_ℤ (pos-+ℤ-pos (q * suc n) (p * (suc n + suc n)))
    ∙ ap (λ (k : ℕ). neg_ℤ (pos k)) {x = q * suc n + p * (suc n + suc n)} {y = suc n * (q + 2 * p)} (omega arith) ∙ sym (negsuc-*ℤ-pos n (q + 2 * p))

-- ---- between the least and the largest

-- Above zero, where b is false: r ≤ h + |h| / 2^50 + 2 units. Below, where it is true: r ≥ h - |h| / 2^50 - 2 units.
abbrev pub Upto : Bool → Float → Float → Type 0
Upto b r h = 2 ^ 50 * (part b r + part (not b) h) ≤ 2 ^ 50 * (part (not b) r + part b h) + (part b h + part (not b) h + 2 ^ 51)

-- x goes no farther to that side than h
abbrev Short : Bool → Float → Float → Type 0
Short b x h = (part b x ≤ part b h) × (part (not b) h ≤ part (not b) x)

at_zero : {x h : ℕ} → x ≤ h → h ≡ 0 → x ≡ 0
at_zero l e = omega (arith, l, e)

one_sided : (b : Bool) (h : Float) → (part b h ≡ 0) ⊎ (part (not b) h ≡ 0)
one_sided b nan = inl refl
one_sided b (inf s) = inl refl
one_sided true (fin true m e) = inr refl
one_sided true (fin false m e) = inl refl
one_sided false (fin true m e) = inl refl
one_sided false (fin false m e) = inr refl

module _ (c : Float) (s : Planar) (t : Answered c s) where
  abbrev score : Float
  score = visual_score c s

  some : 0 < den c + 2 * num c
  some = positive (den c) (num c) (den_pos c)
    where
      positive : (q p : ℕ) → 0 < q → 0 < q + 2 * p
      positive q p h = omega arith

  module _ (b : Bool) (h : Float) (y : Short b s.y h) (u : Short b s.u h) (v : Short b s.v h) where
    -- h is not on the other side
    outward : part (not b) h ≡ 0 → Upto b score h
    outward e =
        join (part b score) (part (not b) score) (part b h) (part (not b) h) e
        (out_most (heft c s t) (part b score) (parts c s t b) (part b h) some (score_most c s t b)
        (total_most (den c) (num c) (part b s.y) (part b s.u) (part b s.v) (part b h) y.0 u.0 v.0))
      where
        join : (r r' h h' : ℕ) → h' ≡ 0 → 2 ^ 50 * r ≤ (2 ^ 50 + 1) * h + 2 ^ 51 → 2 ^ 50 * (r + h') ≤ 2 ^ 50 * (r' + h) + (h + h' + 2 ^ 51)
        join r r' h h' z k = omega (arith, z, k)

    -- h is on the other side, and so are all three
    inward : part b h ≡ 0 → 2 ^ 50 * parts c s t (not b) ≤ 2 ^ 50 * (heft c s t * part (not b) score) + (parts c s t (not b) + 2 ^ 51 * heft c s t) → Upto b score h
    inward e least =
        join (part b score) (part (not b) score) (part b h) (part (not b) h) e
        (no_score c s t b (at_zero y.0 e) (at_zero u.0 e) (at_zero v.0 e))
        (out_least (heft c s t) (part (not b) score) (parts c s t (not b)) (part (not b) h) some least
        (total_least (den c) (num c) (part (not b) s.y) (part (not b) s.u) (part (not b) s.v) (part (not b) h) y.1 u.1 v.1))
      where
        join : (r r' h h' : ℕ) → h ≡ 0 → r ≡ 0 → 2 ^ 50 * h' ≤ 2 ^ 50 * r' + (h' + 2 ^ 51) → 2 ^ 50 * (r + h') ≤ 2 ^ 50 * (r' + h) + (h + h' + 2 ^ 51)
        join r r' h h' z i k = omega (arith, z, i, k)

  upto : (b : Bool) (h : Float) → Short b s.y h → Short b s.u h → Short b s.v h → Upto b score h
  upto b h y u v = elim (one_sided b h) [ inl e ↦ inward b h y u v e (other b (at_zero y.0 e) (at_zero u.0 e) (at_zero v.0 e)) | inr e ↦ outward b h y u v e ]
    where
      other : (b : Bool) → part b s.y ≡ 0 → part b s.u ≡ 0 → part b s.v ≡ 0
          → 2 ^ 50 * parts c s t (not b) ≤ 2 ^ 50 * (heft c s t * part (not b) score) + (parts c s t (not b) + 2 ^ 51 * heft c s t)
      other true i j k = score_least c s t false i j k
      other false i j k = score_least c s t true i j k

-- ---- the laws, of what the call answers

says : (a b : Bool) (x r : Float) → score_for (combined_refusal a b) x ≡ Ok r → (a ≡ true) × ((b ≡ true) × (x ≡ r))
says true true x r e = (refl, (refl, cc))
says true false x r e = cc
says false b x r e = cc

-- a finite double, and one between two others
pub record Double (x : Float) : Type 0 where
  pub number : finite x ≡ true
  pub fitting : T (fits binary64 x)

abbrev pub Held : Float → Float → Float → Type 0
Held lo x hi = T (le lo x) × T (le x hi)

module _ (c : Float) (s : Planar) (doubles : Doubles c s) (r : Float) (answer : combined_hvs_of c s ≡ Ok r) where
  said : (combinable c s ≡ true) × ((finite (visual_score c s) ≡ true) × (visual_score c s ≡ r))
  said = says (combinable c s) (finite (visual_score c s)) (visual_score c s) r answer

  t : Answered c s
  t = record { doubles = doubles; ok = said.0; given = said.1.0 }

  of_answer : (b : Bool) (h : Float) → Short b s.y h → Short b s.u h → Short b s.v h → Upto b r h
  of_answer b h y u v = subst (λ (x : Float). Upto b x h) said.1.1 (upto c s t b h y u v)

  -- three times one number comes to that number
  pub hvs_same : (x : Float) → s.y ≡ x → s.u ≡ x → s.v ≡ x → Upto false r x × Upto true r x
  hvs_same x i j k = (of_answer false x (is false i) (is false j) (is false k), of_answer true x (is true i) (is true j) (is true k))
    where
      is : (b : Bool) {z : Float} → z ≡ x → Short b z x
      is b e = subst (λ (w : Float). Short b w x) (sym e) (le_refl (part b x), le_refl (part (not b) x))

  top : (x hi : Float) → Double hi → finite x ≡ true → T (fits binary64 x) → T (le x hi) → Short false x hi
  top x hi d p f h = le_parts x hi p d.number f d.fitting h

  foot : (lo x : Float) → Double lo → finite x ≡ true → T (fits binary64 x) → T (le lo x) → Short true x lo
  foot lo x d p f h = let k = le_parts lo x d.number p d.fitting f h in (k.1, k.0)

  -- three numbers between lo and hi come to one between them
  pub hvs_between : (lo hi : Float) → Double lo → Double hi → Held lo s.y hi → Held lo s.u hi → Held lo s.v hi → Upto false r hi × Upto true r lo
  hvs_between lo hi l h y u v =
      let n = numbers c s t.ok in (
        of_answer false hi (top s.y hi h n.0 doubles.luma y.1) (top s.u hi h n.1.0 doubles.cb u.1) (top s.v hi h n.1.1 doubles.cr v.1),
        of_answer true lo (foot lo s.y l n.0 doubles.luma y.0) (foot lo s.u l n.1.0 doubles.cb u.0) (foot lo s.v l n.1.1 doubles.cr v.0),
      )

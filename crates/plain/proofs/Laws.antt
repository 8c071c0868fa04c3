-- The plain engine answers what SSIM answers. That the sums at a centre are those of `moments_at` is the contract of `sums::moments_at`.
-- Assumes nothing.
use mathlib.Core.Path.{◌≡◌, refl, sym, ap, ◌∙◌}
use mathlib.Core.Bool.{Bool, true, false, ◌&&◌}
use mathlib.Core.List.{List, [], ◌∷◌, ◌++◌}
use mathlib.Core.Logic.{◌⊎◌, inl, inr}
use Prim.Native.Nat.{ℕ, ◌*◌, ◌≤◌}
use native.Mathlib.Nat.{le_of_eq}
use native.Mathlib.Omega.{arith}
use borrow.Author.Tests.{le-leb}
use lib.Dec.{leb, lit≤}
use lib.Ieee.{Float}
use lib.Ieee.Scale as Scale
use lib.IntN.{ℤ, pos}
use lib.ListN.{length, replicate, length-replicate}
use Rattle.std.specs.Prelude.{Ok, Err}
use Rattle.refusal.specs.declared.Refusal.{Refusal}
use Rattle.refusal.specs.declared.Refusal.TheVariants as no
use Rattle.refusal.specs.Numbers.{number_of}
use Rattle.refusal.specs.First.{Verdict, first_broken, unless_refused, answer_number}
use Rattle.number.specs.Steps.{◌⊘◌, double}
use Rattle.plane.specs.Plane.{Size, Plane, Planes, planes_of, max_of}
use Rattle.plane.specs.Tests.{size_tests, layout_tests, pair_tests}
use Rattle.plane.specs.Inner.Lawful.{Equivalent}
use Rattle.kernel.specs.Kernel.{lawful, lent_total}
use Rattle.ssim.specs.Score.{totals_in}
use Rattle.ssim.specs.Scratch.{scratch_places}
use Rattle.ssim.specs.Answer.{lent_tests, pair_or9, ssim_score, ssim_of}
use Rattle.ssim.proofs.Visible as ssim
use Rattle.plain.specs.Plain.{plain_tests, plain_refusal, plain_of}

-- ---- a test more at the end: where it passes it changes nothing, and else it is the only one that may be new
last_passes : (ts : List (Refusal × Bool)) (n m : Refusal) (b : Bool) → first_broken (ts ++ (n, b) ∷ (m, true) ∷ []) ≡ first_broken (ts ++ (n, b) ∷ [])
last_passes [] n m true = refl
last_passes [] n m false = refl
last_passes ((k, true) ∷ later) n m b = last_passes later n m b
last_passes ((k, false) ∷ later) n m b = refl

last_fails : (ts : List (Refusal × Bool)) (n m : Refusal) (b : Bool)
    → (first_broken (ts ++ (n, b) ∷ (m, false) ∷ []) ≡ first_broken (ts ++ (n, b) ∷ [])) ⊎ (first_broken (ts ++ (n, b) ∷ (m, false) ∷ []) ≡ Err m)
last_fails [] n m true = inr refl
last_fails [] n m false = inl refl
last_fails ((k, true) ∷ later) n m b = last_fails later n m b
last_fails ((k, false) ∷ later) n m b = inl refl

-- ---- the same answer
module _ (p : Planes) (ker : List ℕ) where
  -- where the refusals are the same
  same_answer : (v w : Verdict) → v ≡ w → unless_refused v (ssim_score p ker) ≡ unless_refused w (ssim_score p ker)
  same_answer v w e = ap (λ (u : Verdict). unless_refused u (ssim_score p ker)) e

  -- with scratch enough, SSIM's answer is the plain engine's
  pub plain_same : (scratch : List ℤ) → scratch_places p.size.width (length ker) ≤ length scratch → ssim_of p ker scratch ≡ plain_of p ker
  unfolding lent_tests
  plain_same scratch l =
      same_answer _ _
      (ap (λ (b : Bool). first_broken (pair_tests p 0 ++ (no.Kernel, lawful lent_total ker) ∷ (no.Scratch, b) ∷ [])) (le-leb _ _ l)
      ∙ last_passes (pair_tests p 0) no.Kernel no.Scratch (lawful lent_total ker))

  -- with any scratch it is that, or 8
  pub plain_or_8 : (scratch : List ℤ) → (ssim_of p ker scratch ≡ plain_of p ker) ⊎ (ssim_of p ker scratch ≡ Err no.Scratch)
  unfolding lent_tests
  plain_or_8 scratch = go (leb (scratch_places p.size.width (length ker)) (length scratch))
    where
      refused : (v : Verdict) → v ≡ Err no.Scratch → unless_refused v (ssim_score p ker) ≡ Err no.Scratch
      refused v e = rw e

      go : (b : Bool) → let v = first_broken (pair_tests p 0 ++ (no.Kernel, lawful lent_total ker) ∷ (no.Scratch, b) ∷ []) in
          (unless_refused v (ssim_score p ker) ≡ plain_of p ker) ⊎ (unless_refused v (ssim_score p ker) ≡ Err no.Scratch)
      go true = inl (same_answer _ _ (last_passes (pair_tests p 0) no.Kernel no.Scratch (lawful lent_total ker)))
      go false =
          elim (last_fails (pair_tests p 0) no.Kernel no.Scratch (lawful lent_total ker)) [ inl e ↦ inl (same_answer _ _ e) | inr e ↦ inr (refused _ e) ]

-- ---- what is not seen
-- padding, strides and what comes after the last row do not count
pub visible_only : (size : Size) (ker : List ℕ) {a b a' b' : Plane} → Equivalent size a a' → Equivalent size b b'
    → plain_of (planes_of size a b) ker ≡ plain_of (planes_of size a' b') ker
visible_only size ker {a} {b} {a'} {b'} p q =
    let need = scratch_places size.width (length ker) in
    let scratch = replicate need (pos 0) in
    let enough : need ≤ length scratch = le_of_eq (sym (length-replicate need (pos 0))) in
    sym (plain_same (planes_of size a b) ker scratch enough)
    ∙ ssim.visible_only size ker scratch p q
    ∙ plain_same (planes_of size a' b') ker scratch enough

-- ---- never 8

-- no number of these tests is above m
abbrev Most : ℕ → List (Refusal × Bool) → Type 0
Most m [] = Unit {0}
Most m (t ∷ later) = (number_of t.0 ≤ m) × Most m later

broken_most : (m : ℕ) (ts : List (Refusal × Bool)) → Most m ts → answer_number (first_broken ts) ≤ m
broken_most m [] h = omega arith
broken_most m ((r, true) ∷ later) h = broken_most m later h.1
broken_most m ((r, false) ∷ later) h = h.0

refusal_most : (p : Planes) (ker : List ℕ) → answer_number (plain_refusal p ker) ≤ number_of no.Kernel
unfolding size_tests layout_tests
refusal_most p ker =
    broken_most (number_of no.Kernel) (plain_tests p ker) (lit≤ tt, (lit≤ tt, (lit≤ tt, (lit≤ tt, (lit≤ tt, (lit≤ tt, (lit≤ tt, tt)))))))

-- the score is a pair or 9
scored : (b : Bool) (ssim cs : Float) → answer_number (pair_or9 b ssim cs) ≡ number_of no.Scratch → ⊥
scored true ssim cs e = omega (arith, e)
scored false ssim cs e = omega (arith, e)

score_not_8 : (p : Planes) (ker : List ℕ) → answer_number (ssim_score p ker) ≡ number_of no.Scratch → ⊥
score_not_8 p ker =
    let max = max_of p.size.depth in
    let t = totals_in (double (max * max)) ker p p.size.height in
    let ssim = t.ssim ⊘ t.ssimw in
    let cs = t.cs ⊘ t.ssimw in
    scored (Scale.finite ssim && Scale.finite cs) ssim cs

pub never_8 : (p : Planes) (ker : List ℕ) → plain_of p ker ≡ Err no.Scratch → ⊥
never_8 p ker e = go (plain_refusal p ker) (refusal_most p ker) (ap answer_number e)
  where
    go : (v : Verdict) → answer_number v ≤ number_of no.Kernel → answer_number (unless_refused v (ssim_score p ker)) ≡ number_of no.Scratch → ⊥
    go (Ok u) l = score_not_8 p ker
    go (Err r) l = λ e. omega (arith, l, e)

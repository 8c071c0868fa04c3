-- Who hands on what the chart wrote is never told by SSIM that the kernel is unlawful. Assumes nothing.
use mathlib.Core.Path.{◌≡◌, refl}
use mathlib.Core.Bool.{Bool, true, false, ◌&&◌}
use mathlib.Core.List.{List, [], ◌∷◌}
use Prim.Native.Nat.{ℕ, ◌*◌}
use lib.Dec.{leb, lit≤}
use lib.Ieee.{Float}
use lib.Ieee.Scale as Scale
use lib.IntN.{ℤ}
use lib.ListN.{length, take}
use Rattle.std.specs.Prelude.{Ok, Err}
use Rattle.refusal.specs.declared.Refusal.{Refusal}
use Rattle.refusal.specs.declared.Refusal.TheVariants as no
use Rattle.refusal.specs.Numbers.{number_of}
use Rattle.refusal.specs.First.{Verdict, first_broken, unless_refused, answer_number}
use Rattle.number.specs.Steps.{◌⊘◌, double}
use Rattle.plane.specs.Plane.{Planes, max_of}
use Rattle.plane.specs.Tests.{pair_tests}
use Rattle.kernel.specs.Kernel.{lent_total, lawful}
use Rattle.kernel_chart.specs.Chart.{kernel_of, chart_refusal, answer_by, charted_of, taps_after}
use Rattle.kernel_chart.proofs.Lawful.{answered, written_lawful}
use Rattle.ssim.specs.Score.{totals_in}
use Rattle.ssim.specs.Scratch.{scratch_places}
use Rattle.ssim.specs.Answer.{lent_tests, pair_or9, ssim_score, ssim_refusal, ssim_of}
use Rattle.fuavelino.specs.Answer.{written}
use Rattle.fuavelino.proofs.Enough.{others, plane_others}
use Rattle.fuavelino.proofs.Told.{none_refused}

-- ---- a lawful kernel is not refused with 7
after_lawful : (t : Bool) → first_broken ((no.Kernel, true) ∷ (no.Scratch, t) ∷ []) ≡ Err no.Kernel → ⊥
after_lawful true e = cc
after_lawful false e = cc

lawful_not_refused : (p : Planes) (ker : List ℕ) (lent : ℕ) → lawful lent_total ker ≡ true → ssim_refusal p ker lent ≡ Err no.Kernel → ⊥
unfolding lent_tests
lawful_not_refused p ker lent l e =
    let own = (others no.Kernel (pair_tests p 0) (lent_tests p.size.width ker lent) (plane_others no.Kernel (lit≤ tt) p 0) e).1 in
    after_lawful (leb (scratch_places p.size.width (length ker)) lent) (rw l at own)

-- the number 7 is that of one refusal
seven : (r : Refusal) → number_of r ≡ number_of no.Kernel → r ≡ no.Kernel
seven no.Depth e = cc
seven no.Size e = cc
seven no.Side e = cc
seven no.Stride e = cc
seven no.Short e = cc
seven no.Sample e = cc
seven no.Kernel e = refl
seven no.Scratch e = cc
seven no.NotFinite e = cc
seven no.Record e = cc
seven no.Total e = cc
seven no.Value e = cc
seven no.Weight e = cc
seven no.Height e = cc
seven no.State e = cc

-- the score itself is a pair or 9
scored : (b : Bool) (ssim cs : Float) → answer_number (pair_or9 b ssim cs) ≡ number_of no.Kernel → ⊥
scored true ssim cs e = cc
scored false ssim cs e = cc

score_not_seven : (p : Planes) (ker : List ℕ) → answer_number (ssim_score p ker) ≡ number_of no.Kernel → ⊥
score_not_seven p ker =
    let max = max_of p.size.depth in
    let t = totals_in (double (max * max)) ker p p.size.height in
    let ssim = t.ssim ⊘ t.ssimw in
    let cs = t.cs ⊘ t.ssimw in
    scored (Scale.finite ssim && Scale.finite cs) ssim cs

lawful_not_seven : (p : Planes) (ker : List ℕ) (scratch : List ℤ) → lawful lent_total ker ≡ true
    → answer_number (ssim_of p ker scratch) ≡ number_of no.Kernel → ⊥
lawful_not_seven p ker scratch l = go (ssim_refusal p ker (length scratch)) refl
  where
    go : (v : Verdict) → ssim_refusal p ker (length scratch) ≡ v → answer_number (unless_refused v (ssim_score p ker)) ≡ number_of no.Kernel → ⊥
    go (Ok _) is e = score_not_seven p ker e
    go (Err r) is e = lawful_not_refused p ker (length scratch) l (rw (seven r e) at is)

-- ---- the chart's call accepts where it refuses nothing
pub accepts : (v : Verdict) (count : ℕ) → answer_number (answer_by v count) ≡ 0 → v ≡ Ok tt
accepts (Ok _) count e = refl
accepts (Err r) count e = none_refused (Err r) e

-- ---- the law: the kernel handed on is what was written to the first places, as many as were told
pub kernel_not_seven : (height c : ℕ) (old : List ℕ) (p : Planes) (scratch : List ℤ) → answer_number (charted_of height old) ≡ 0
    → answer_number (ssim_of p (take (written (λ (x : ℕ). x) (charted_of height old) c) (taps_after height old)) scratch) ≡ number_of no.Kernel → ⊥
unfolding charted_of
kernel_not_seven height c old p scratch e =
    let z = accepts (chart_refusal height (length old)) (length (kernel_of height)) e in
    rw (answered height old z) (lawful_not_seven p _ scratch (written_lawful height old z))

-- What holds where no test of the plain engine refuses, and what the answer is where one does. Assumes nothing.
use mathlib.Core.Path.{◌≡◌, sym}
use mathlib.Core.Bool.{Bool, true, false}
use mathlib.Core.List.{List, [], ◌∷◌}
use Prim.Native.Nat.{ℕ}
use Rattle.std.specs.Prelude.{Ok, Err}
use Rattle.refusal.specs.declared.Refusal.{Refusal}
use Rattle.refusal.specs.declared.Refusal.TheVariants as no
use Rattle.refusal.proofs.Chain.{halves, passed, stop, go_on}
use Rattle.plane.specs.Plane.{Planes, both}
use Rattle.plane.specs.Tests.{pair_tests, pair_refusal}
use Rattle.plane.specs.Inner.Lawful.{AcceptedPair}
use Rattle.plane.proofs.Accept.{accepted}
use Rattle.kernel.specs.Kernel.{lawful, lent_total}
use Rattle.plain.specs.Plain.{plain_refusal}

-- 7, after those of the planes
abbrev own : List ℕ → List (Refusal × Bool)
own ker = (no.Kernel, lawful lent_total ker) ∷ []

module _ (p : Planes) (ker : List ℕ) where
  -- the planes refuse
  pub planes_refuse : {r : Refusal} → Err r ≡ pair_refusal p 0 → Err r ≡ plain_refusal p ker
  planes_refuse e = sym (stop (pair_tests p 0) (own ker) (sym e))

  -- they do not
  pub kernel_refuses : Ok tt ≡ pair_refusal p 0 → lawful lent_total ker ≡ false → Err no.Kernel ≡ plain_refusal p ker
  kernel_refuses e f = go_on (pair_tests p 0) (own ker) (sym e) (rw f)

  pub none_refuses : Ok tt ≡ pair_refusal p 0 → lawful lent_total ker ≡ true → Ok tt ≡ plain_refusal p ker
  none_refuses e f = go_on (pair_tests p 0) (own ker) (sym e) (rw f)

  -- none of them refuses
  pub sound : plain_refusal p ker ≡ Ok tt → AcceptedPair p 0 × (lawful lent_total ker ≡ true)
  sound e =
      let h = halves (pair_tests p 0) (own ker) e in
      (accepted p.size (both p) 0 h.0, (passed (own ker) h.1).0)

-- What is judged of a kernel that is listed. Definitions only.
use Rattle.std.specs.Prelude.{[], ◌∷◌, ℕ, leb}
use Rattle.refusal.specs.First.{Verdict, first_broken}
use Rattle.refusal.specs.declared.Refusal.TheVariants as no

-- 8 where it has more taps than there are places
abbrev pub room_refusal : ℕ → ℕ → Verdict
room_refusal count places = first_broken ((no.Scratch, leb count places) ∷ [])

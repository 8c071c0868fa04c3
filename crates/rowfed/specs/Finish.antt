-- SCOPE, "Rows as they arrive": finish. Definitions only.
use Rattle.std.specs.Prelude.{Bool, true, false, ◌||◌, List, [], ◌∷◌, ℕ, eqb, leb, ℤ, pos, length, Result}
use Rattle.refusal.specs.declared.Refusal.{Refusal}
use Rattle.refusal.specs.declared.Refusal.TheVariants as no
use Rattle.refusal.specs.First.{Verdict, first_broken, by_refusal, unless_refused}
use Rattle.ssim.specs.declared.Ssim.{Ssim}
use Rattle.ssim.specs.Answer.{pair_of}
use Rattle.ssim.specs.Scratch.{cleared}
use Rattle.rowfed.specs.declared.State.{State}
use Rattle.rowfed.specs.State.{possible, places_of}

-- an impossible state, of either sample width, goes before all else; then too little scratch; then rows that have not come
unfoldable pub finish_tests : State → ℕ → List (Refusal × Bool)
finish_tests s lent =
    (no.State, possible false s || possible true s) ∷ (no.Scratch, leb (places_of s) lent) ∷ (no.State, eqb s.rows s.height) ∷ []

abbrev pub finish_refusal : State → ℕ → Verdict
finish_refusal s lent = first_broken (finish_tests s lent)

-- the pair, or 9, as of SSIM
abbrev pub finish_of : State → List ℤ → Result Ssim Refusal
finish_of s scratch = unless_refused (finish_refusal s (length scratch)) (pair_of s.sums)

-- what then stands in the scratch: refused, what stood there; else, and at 9, the needed part is zero
abbrev pub scratch_finished : State → List ℤ → List ℤ
scratch_finished s scratch = by_refusal (finish_refusal s (length scratch)) (cleared (pos 0) (places_of s) scratch) scratch

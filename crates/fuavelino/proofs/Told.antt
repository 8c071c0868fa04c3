-- An answer is told as 0 only where nothing is refused. Assumes nothing.
use mathlib.Core.Path.{◌≡◌, refl}
use Rattle.std.specs.Prelude.{Ok, Err}
use Rattle.refusal.specs.declared.Refusal.{Refusal}
use Rattle.refusal.specs.declared.Refusal.TheVariants as no
use Rattle.refusal.specs.Numbers.{number_of}
use Rattle.refusal.specs.First.{Verdict, answer_number}

some_number : (r : Refusal) → number_of r ≡ 0 → ⊥
some_number no.Depth e = cc
some_number no.Size e = cc
some_number no.Side e = cc
some_number no.Stride e = cc
some_number no.Short e = cc
some_number no.Sample e = cc
some_number no.Kernel e = cc
some_number no.Scratch e = cc
some_number no.NotFinite e = cc
some_number no.Record e = cc
some_number no.Total e = cc
some_number no.Value e = cc
some_number no.Weight e = cc
some_number no.Height e = cc
some_number no.State e = cc

pub none_refused : (v : Verdict) → answer_number v ≡ 0 → v ≡ Ok tt
none_refused (Ok _) e = refl
none_refused (Err r) e = absurd (some_number r e)

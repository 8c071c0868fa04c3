-- What an answer is at the face: its number, `answer_number`, and what stands in the places lent for it. Definitions only.
use Rattle.std.specs.Prelude.{Result, Ok, Err}
use Rattle.refusal.specs.declared.Refusal.{Refusal}

module _ {A B : Type 0} where
  -- a part of the answer where there is one, else what stood there
  abbrev pub written : (A → B) → Result A Refusal → B → B
  written part (Ok x) old = part x
  written part (Err r) old = old

-- The plane that is handed back, told to another language by its length and one of its samples. Definitions only.
use Rattle.std.specs.Prelude.{Bool, List, ℕ, get_or}
use Rattle.std.specs.Borrow.{Bor}
use Rattle.better.specs.Better.{contest, winner_of}

-- that of a call which is lent bytes or words, its parameters as they stand
unfoldable pub winning : Bool → Bor (List ℕ) → Bor (List ℕ) → Bor (List ℕ) → ℕ → ℕ → ℕ → ℕ → ℕ → ℕ → List ℕ
winning wide o a b width height stride_o stride_a stride_b depth = winner_of (contest wide o a b width height stride_o stride_a stride_b depth)

-- what then stands in the place lent: sample `at` of what is handed back, or what stood there
abbrev pub sample_written : List ℕ → ℕ → ℕ → ℕ
sample_written samples at old = get_or samples at old

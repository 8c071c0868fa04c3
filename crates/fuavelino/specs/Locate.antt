-- What the answers about where planes differ are at the face: what is written. Definitions only.
use Rattle.std.specs.Prelude.{ℕ, Option, Some, None, Result, Ok, Err}
use Rattle.refusal.specs.declared.Refusal.{Refusal}
use Rattle.locate.specs.declared.Place.{Place}
use Rattle.locate.specs.declared.Tiles.{Tiles}
use Rattle.fuavelino.specs.Answer.{written}

-- 1 beside a place, 0 where the planes agree
abbrev pub differs : Option Place → ℕ
differs (Some p) = 1
differs None = 0

-- what then stands in the places lent: whether they differ, or what stood there
abbrev pub differs_written : Result (Option Place) Refusal → ℕ → ℕ
differs_written = written differs

-- the row and the column where there is such a place, or what stood there
abbrev pub row_written : Result (Option Place) Refusal → ℕ → ℕ
row_written (Ok (Some p)) old = p.row
row_written (Ok None) old = old
row_written (Err r) old = old

abbrev pub column_written : Result (Option Place) Refusal → ℕ → ℕ
column_written (Ok (Some p)) old = p.column
column_written (Ok None) old = old
column_written (Err r) old = old

-- of a map: the tiles across and down
abbrev pub across_written : Result Tiles Refusal → ℕ → ℕ
across_written = written (λ (t : Tiles). t.across)

abbrev pub down_written : Result Tiles Refusal → ℕ → ℕ
down_written = written (λ (t : Tiles). t.down)

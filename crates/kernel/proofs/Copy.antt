-- Taps copied over the front of a list, one store a turn. Assumes nothing.
use mathlib.Core.Path.{◌≡◌}
use mathlib.Core.List.{List, ◌++◌}
use Prim.Native.Nat.{ℕ, ◌+◌, ◌<◌}
use native.Mathlib.Nat.{zero-add}
use native.Mathlib.Numerals.{add-one}
use lib.ListN.{length, get_or, set, take, drop}
use lib.Seq.{paste-suc}

-- the kit's copy, from place 0 on
pub copied_more : (xs old : List ℕ) (i : ℕ) → i < length xs → i < length old
    → set (take i xs ++ drop i old) i (get_or xs i 0) ≡ take (i + 1) xs ++ drop (i + 1) old
copied_more xs old i l m = rw add-one (rw (zero-add, zero-add) at (paste-suc old 0 xs i 0 (rw zero-add m) l))

-- `row_ring::column` meets its contract: two runs of taps, the second from the ring's first line on. Assumes nothing.
use mathlib.Core.Path.{◌≡◌}
use Prim.Native.Nat.{ℕ, min, ◌≤◌, ◌<◌, ◌-◌, ◌+◌, ◌/◌, ◌%◌}
use native.Mathlib.Nat.{mod-lt}
use native.Mathlib.Omega.{arith}
use lib.ListN.{length}
use Rattle.window.proofs.Sums.Column.{column_none, column_all}
use Rattle.row_ring.specs.Ring.{place_at}
use Rattle.row_ring.proofs.Rings.{slot_over}
use Rattle.row_ring.proofs.column.Goals as goal

-- a second run begins in the first slot, with lines enough for it
over_place : (width L off y x from over upto : ℕ) → 0 < L → off ≤ y + from → from ≤ upto → upto ≤ from + L
    → over ≡ min upto (from + (L - (y + from - off) % L)) → over < upto
    → (x ≡ place_at width L (y + over - off) x) × ((y + over - off) % L + (upto - over) ≤ L)
over_place width L off y x from over upto some low grows few e l =
    let row : ℕ = y + from - off in
    let left : ℕ = L - row % L in
    let slot : row % L < L = mod-lt row some in
    let d : y + over - off ≡ row + left = omega arith in
    let z : (y + over - off) % L ≡ 0 = rw d (slot_over L row left some (omega arith)) in
    (rw z (omega arith), omega arith)

pub run-t-requires-clause-t_value : goal.run-t-requires-clause-t_value
run-t-requires-clause-t_value c = column_none _ _ _ _ _ _ _ (omega arith)

pub run-requires-clause-at_value : goal.run-requires-clause-at_value
run-requires-clause-at_value c =
    over_place c.args.ring.width c.args.ring.lines (length c.args.kernel.now / 2) c.args.y c.args.x c.first-from.result c.turn-over.result c.past-upto.result
    (omega arith) (omega arith) (omega arith) (omega arith) c.turn-over.ensures

pub returns : goal.returns
returns c = column_all _ _ _ _ _ _ _ _ c.run.ensures c.requires.kernel (omega arith) (omega arith)

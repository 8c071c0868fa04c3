-- `window::row::along` meets its contract: k pairs are summed, and the middle. Assumes nothing.
use mathlib.Core.Path.{◌≡◌, ◌∙◌}
use Prim.Native.Nat.{ℕ, ◌-◌, ◌+◌, ◌*◌, ◌/◌}
use native.Mathlib.Omega.{arith}
use lib.ListN.{length}
use Rattle.window.specs.Inner.Columns.{cell_of}
use Rattle.window.proofs.Sums.Five.{nth_five}
use Rattle.window.proofs.Sums.Folded.{folds_all, middle_room, folds_room}
use Rattle.window.proofs.row.along.Goals as goal

pub tapped-t-requires : goal.tapped-t-requires
tapped-t-requires c = let off = length c.args.kernel.now / 2 in
    let room = middle_room c.args.kernel.now (cell_of c.args.cols.now) c.args.x c.requires.kernel
    (λ m l k q. (c.requires.column_sums (5 * (c.args.x + k) + m) (omega arith)).low) in
    rw (c.none.ensures, c.cells.ensures)
    (λ m l. rw (nth_five (λ (i : ℕ). cell_of c.args.cols.now i (c.args.x + off)) m l) (room m l))

pub tapped-t-requires-in-loop-k : goal.tapped-t-requires-in-loop-k
tapped-t-requires-in-loop-k c = let off = length c.args.kernel.now / 2 in
    let k = c.loop-k.k in
    let room = folds_room c.args.kernel.now (cell_of c.args.cols.now) c.args.x c.requires.kernel
    (λ m l j q. (c.requires.column_sums (5 * (c.args.x + j) + m) (omega arith)).low) _ k c.loop-k.invariant.1
    c.loop-k-test.true in
    rw c.pair.ensures
    (λ m l.
    rw (nth_five (λ (i : ℕ). cell_of c.args.cols.now i (c.args.x + k) + cell_of c.args.cols.now i (c.args.x + 2 * off - k)) m l)
    (room m l))

pub returns : goal.returns
returns c = let e : c.loop-k.k ≡ length c.args.kernel.now / 2 = omega arith in
    rw e at c.loop-k.invariant.1 ∙ folds_all c.args.kernel.now (cell_of c.args.cols.now) c.args.x c.requires.kernel

-- `locate::first::first` meets its contract. The walks' invariants: nothing was found in the rows passed, nor in the columns passed of
-- the present row. Assumes nothing.
use Rattle.std.proofs.Common.{◌≡◌, None}
use Rattle.plane.specs.Inner.Seen.{planes}
use Rattle.locate.specs.Where.{differ_at, along_to, down_to}
use Rattle.locate.proofs.first.first.Given as goal

abbrev pub invariant-loop-x : goal.invariant-loop-x
invariant-loop-x g l = (l.place ≡ None) × (along_to (differ_at (planes g.S.Sample.value g.S.Stored.WIDE l.p)) l.y l.x ≡ None)

abbrev pub invariant-rows : goal.invariant-rows
invariant-rows g l =
    (l.place ≡ None) × (down_to (differ_at (planes g.S.Sample.value g.S.Stored.WIDE l.p)) l.p.format.width l.y ≡ None)

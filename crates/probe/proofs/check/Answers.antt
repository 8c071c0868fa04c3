-- `probe::check` meets its contract: each way out is taken by the first test that fails. Assumes nothing.
use mathlib.Core.Path.{◌≡◌}
use mathlib.Core.Bool.{true, false}
use Prim.Native.Nat.{◌*◌}
use borrow.Author.Tests.{le-leb}
use lib.Dec.{leb}
use lib.ListN.{length}
use Rattle.std.proofs.lemmas.List.{map-id}
use Rattle.refusal.proofs.Chain.{fails, holds}
use Rattle.plane.specs.Plane.{at}
use Rattle.plane.specs.Tests.{sides_suit, none_above}
use Rattle.window.specs.Moments.{most_sample}
use Rattle.probe.proofs.Accept.{sides_count}
use Rattle.probe.proofs.check.Goals as goal

pub overflow_mul-height : goal.overflow_mul-height
overflow_mul-height c =
    let sides : sides_suit c.args.width c.args.height ≡ true = holds c.sides_suit.ensures c.if-not-sides_suit.false-raw in
    record { fits = sides_count _ _ sides }

pub returns-then-not-none_above : goal.returns-then-not-none_above
unfolding most_sample
returns-then-not-none_above c =
    let sides : sides_suit c.args.width c.args.height ≡ true = holds c.sides_suit.ensures c.if-not-sides_suit.false-raw in
    let long : leb (c.args.height * c.args.width) (length c.args.longs.now) ≡ true = le-leb _ _ c.if-longs-height.false in
    let above : none_above most_sample (at c.args.longs.now) (length c.args.longs.now) ≡ false =
    fails (rw map-id at c.none_above.ensures) c.if-not-none_above.true-raw in
    simp (sides, long, above)

pub returns : goal.returns
unfolding most_sample
returns c =
    let sides : sides_suit c.args.width c.args.height ≡ true = holds c.sides_suit.ensures c.if-not-sides_suit.false-raw in
    let long : leb (c.args.height * c.args.width) (length c.args.longs.now) ≡ true = le-leb _ _ c.if-longs-height.false in
    let within : none_above most_sample (at c.args.longs.now) (length c.args.longs.now) ≡ true =
    holds (rw map-id at c.none_above.ensures) c.if-not-none_above.false-raw in
    simp (sides, long, within)

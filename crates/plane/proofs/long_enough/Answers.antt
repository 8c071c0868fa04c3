-- `plane::long_enough` meets its contract, by a law of division. Assumes nothing.
use Rattle.std.proofs.Common.{sym, arith}
use Rattle.std.proofs.lemmas.List.{length-map}
use Rattle.plane.specs.Inner.Seen.{sized, seen}
use Rattle.plane.proofs.Rows.{too_short, by_division}
use Rattle.plane.proofs.long_enough.Goals as goal

pub returns-then-n-format : goal.returns-then-n-format
returns-then-n-format g c =
    let size = sized g.S.Stored.WIDE c.args.format in
    too_short size (seen g.S.Sample.value c.args.p) (sym (length-map c.args.p.samples.now g.S.Sample.value)) c.if-n-format.true

pub returns : goal.returns
returns g c =
    let size = sized g.S.Stored.WIDE c.args.format in
    by_division size (seen g.S.Sample.value c.args.p) (sym (length-map c.args.p.samples.now g.S.Sample.value)) (omega arith) c.if-n-format.false

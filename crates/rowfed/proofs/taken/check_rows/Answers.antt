-- `rowfed::taken::check_rows` meets its contract. Assumes nothing.
use Rattle.std.proofs.Common.{◌∙◌}
use Rattle.plane.specs.Inner.Seen.{planes}
use Rattle.rowfed.proofs.Accept.{some_rows}
use Rattle.rowfed.proofs.taken.check_rows.Goals as goal

pub returns : goal.returns
returns g c =
    let group = planes g.S.Sample.value g.S.Stored.WIDE c.args.p in
    c.lower.ensures ∙ rw (c.check_layout-own.ensures, c.check_layout-other.ensures) (some_rows group c.if-p-eq0.false)

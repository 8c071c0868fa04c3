-- `better::judge` meets its contract: 1 to 5 are judged first, 6 on the walk. Assumes nothing.
use Rattle.std.proofs.Common.{◌≡◌, Err, sym, ◌∙◌, rules}
use Rattle.plane.specs.Plane.{Planes}
use Rattle.plane.specs.Inner.Seen.{planes}
use Rattle.psnr.proofs.Walks.{readable}
use Rattle.better.proofs.Judging.{judged_by, judged_early}
use Rattle.better.proofs.judge.Goals as goal

pub returns-in_err-check_unread : goal.returns-in_err-check_unread
returns-in_err-check_unread g c =
    let both : Planes = planes g.S.Sample.value g.S.Stored.WIDE c.args.p in
    let told : c.from_residual.result ≡ Err c.in_err-check_unread.field-0.0 = search rules in
    told ∙ judged_early both c.in_err-check_unread.ensures

pub rows-requires : goal.rows-requires
rows-requires g c = readable _ 0 (sym c.in_ok-check_unread.ensures)

pub returns : goal.returns
returns g c =
    let both : Planes = planes g.S.Sample.value g.S.Stored.WIDE c.args.p in
    c.rows.ensures ∙ judged_by both (sym c.in_ok-check_unread.ensures)

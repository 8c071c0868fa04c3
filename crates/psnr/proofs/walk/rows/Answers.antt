-- `psnr::walk::rows` meets its contract. The loop's invariant: no sample of the rows passed is above sample_max, and the sum is theirs.
-- Assumes nothing.
use Rattle.std.proofs.Common.{◌≡◌, ◌+◌, Ok, Err, sym, ◌∙◌, arith, rules}
use Rattle.plane.specs.Plane.{Planes}
use Rattle.plane.specs.Inner.Seen.{planes}
use Rattle.psnr.specs.Inner.Walk.{walked_at}
use Rattle.psnr.proofs.Squares.{error_none, total_fits}
use Rattle.psnr.proofs.Walks.{first_inside, second_inside, row_may, row_found, suit_none, row_adds, row_breaks, rows_end, rows_below}
use Rattle.psnr.proofs.walk.rows.Goals as goal

pub loop-y-init : goal.loop-y-init
loop-y-init g c =
    let both : Planes = planes g.S.Sample.value g.S.Stored.WIDE c.args.p in (omega arith, sym (error_none _), suit_none both)

pub row-first-requires : goal.row-first-requires
row-first-requires g c = first_inside g.S.Sample.value g.S.Stored.WIDE c.args.p c.loop-y.y c.requires c.loop-y-test.true

pub row-second-requires : goal.row-second-requires
row-second-requires g c = second_inside g.S.Sample.value g.S.Stored.WIDE c.args.p c.loop-y.y c.requires c.loop-y-test.true

pub row-requires : goal.row-requires
row-requires g c =
    rw (c.row-first.ensures, c.row-second.ensures)
    (row_may g.S.Sample.value g.S.Stored.WIDE c.args.p c.loop-y.y c.requires c.loop-y-test.true)

pub returns-in_err-sum : goal.returns-in_err-sum
returns-in_err-sum g c =
    let both : Planes = planes g.S.Sample.value g.S.Stored.WIDE c.args.p in
    let found : Err c.in_err-sum.field-0.0 ≡ walked_at both c.loop-y.y =
    row_found g.S.Sample.value g.S.Stored.WIDE c.args.p c.loop-y.y c.requires c.loop-y-test.true c.row-first.ensures c.row-second.ensures c.in_err-sum.ensures in
    let told : c.from_residual.result ≡ Err c.in_err-sum.field-0.0 = search rules in
    told ∙ row_breaks both c.loop-y.y c.loop-y-test.true found

pub overflow_add-sum : goal.overflow_add-sum
overflow_add-sum g c =
    let both : Planes = planes g.S.Sample.value g.S.Stored.WIDE c.args.p in
    let found : Ok c.in_ok-sum.field-0 ≡ walked_at both c.loop-y.y =
    row_found g.S.Sample.value g.S.Stored.WIDE c.args.p c.loop-y.y c.requires c.loop-y-test.true c.row-first.ensures c.row-second.ensures c.in_ok-sum.ensures in
    let m = row_adds both c.loop-y.y c.loop-y.invariant.1 c.loop-y.invariant.2 found in
    let room = rows_below both c.requires (c.loop-y.y + 1) (omega arith) m.1 in
    omega (arith, m.0, room, total_fits)

pub loop-y-preserved : goal.loop-y-preserved
loop-y-preserved g c =
    let both : Planes = planes g.S.Sample.value g.S.Stored.WIDE c.args.p in
    let found : Ok c.in_ok-sum.field-0 ≡ walked_at both c.loop-y.y =
    row_found g.S.Sample.value g.S.Stored.WIDE c.args.p c.loop-y.y c.requires c.loop-y-test.true c.row-first.ensures c.row-second.ensures c.in_ok-sum.ensures in
    let m = row_adds both c.loop-y.y c.loop-y.invariant.1 c.loop-y.invariant.2 found in (search rules, m.0, m.1)

pub returns : goal.returns
returns g c =
    let both : Planes = planes g.S.Sample.value g.S.Stored.WIDE c.args.p in
    let e : c.loop-y.y ≡ c.args.p.format.height = omega arith in
    rows_end both (rw e at c.loop-y.invariant.1) (rw e at c.loop-y.invariant.2)

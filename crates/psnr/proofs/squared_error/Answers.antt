-- `psnr::squared_error` meets its contract: 1 to 5 are judged first, 6 on the walk, 10 last. Assumes nothing.
use Rattle.std.proofs.Common.{◌≡◌, ℕ, zero, suc, Ok, Err, sym, refl, ap, ◌∙◌, le_refl, le_of_lt, arith, rules}
use Rattle.plane.specs.Plane.{Planes}
use Rattle.plane.specs.Inner.Seen.{planes}
use Rattle.plane.proofs.Depth.{depth_small}
use Rattle.plane.proofs.Limits.{area_fits}
use Rattle.psnr.specs.declared.Record.{Record}
use Rattle.psnr.specs.declared.SquaredError.TheVariants.{Differs, Identical}
use Rattle.psnr.specs.Limits.{total_limit}
use Rattle.psnr.specs.Squared.{error_answer}
use Rattle.psnr.proofs.Answered.{taken, refused_early, refused_on_walk, refused_by_number, answered}
use Rattle.psnr.proofs.Squares.{walkable, error_below}
use Rattle.psnr.proofs.Walks.{readable, whole_says}
use Rattle.psnr.proofs.squared_error.Goals as goal

-- the answer by its cases
identical : (e : ℕ) (r : Record) → e ≡ 0 → Identical r ≡ error_answer e r
identical zero r z = refl
identical (suc e) r z = absurd (omega arith)

differs : (e : ℕ) (r : Record) → (e ≡ 0 → ⊥) → Differs r ≡ error_answer e r
differs zero r n = absurd (n refl)
differs (suc e) r n = refl

pub returns-in_err-check_unread : goal.returns-in_err-check_unread
returns-in_err-check_unread g c =
    let both : Planes = planes g.S.Sample.value g.S.Stored.WIDE c.args.p in
    let told : c.from_residual.result ≡ Err c.in_err-check_unread.field-0.0 = search rules in
    told ∙ refused_early both c.args.frame c.args.plane c.in_err-check_unread.ensures

pub rows-requires : goal.rows-requires
rows-requires g c = readable _ 0 (sym c.in_ok-check_unread.ensures)

pub returns-in_err-error : goal.returns-in_err-error
returns-in_err-error g c =
    let both : Planes = planes g.S.Sample.value g.S.Stored.WIDE c.args.p in
    let told : c.from_residual-in_err-error.result ≡ Err c.in_err-error.field-0.0 = search rules in
    told ∙ refused_on_walk both c.args.frame c.args.plane (sym c.in_ok-check_unread.ensures) c.in_err-error.ensures

pub returns-then-not-suits : goal.returns-then-not-suits
returns-then-not-suits g c =
    let both : Planes = planes g.S.Sample.value g.S.Stored.WIDE c.args.p in
    refused_by_number both c.args.frame c.args.plane (sym c.in_ok-check_unread.ensures) c.in_ok-error.ensures (search rules)

pub exact-requires : goal.exact-requires
unfolding total_limit
exact-requires g c =
    let both : Planes = planes g.S.Sample.value g.S.Stored.WIDE c.args.p in
    let lawful = taken both (sym c.in_ok-check_unread.ensures) c.in_ok-error.ensures in
    rw (← (whole_says both c.in_ok-error.ensures).1) (le_of_lt (error_below (walkable lawful) (le_refl _)))

pub overflow_mul-record : goal.overflow_mul-record
overflow_mul-record g c =
    let both : Planes = planes g.S.Sample.value g.S.Stored.WIDE c.args.p in
    let size = (taken both (sym c.in_ok-check_unread.ensures) c.in_ok-error.ensures).sized in
    record { fits = area_fits size.width_most size.height_most }

pub sample_max-requires : goal.sample_max-requires
sample_max-requires g c =
    let both : Planes = planes g.S.Sample.value g.S.Stored.WIDE c.args.p in
    let size = (taken both (sym c.in_ok-check_unread.ensures) c.in_ok-error.ensures).sized in
    omega (arith, size.depth_most, depth_small g.S.Stored.WIDE)

pub returns-then-error-eq0 : goal.returns-then-error-eq0
returns-then-error-eq0 g c =
    let both : Planes = planes g.S.Sample.value g.S.Stored.WIDE c.args.p in
    let whole = whole_says both c.in_ok-error.ensures in
    let all = answered both c.args.frame c.args.plane (sym c.in_ok-check_unread.ensures) c.in_ok-error.ensures (search rules) in
    rw (c.exact.ensures, c.sample_max.ensures, ← whole.1) (ap Ok (identical _ _ (omega (arith, whole.1))) ∙ rw (← whole.1) at all)

pub returns-else-error-eq0 : goal.returns-else-error-eq0
returns-else-error-eq0 g c =
    let both : Planes = planes g.S.Sample.value g.S.Stored.WIDE c.args.p in
    let whole = whole_says both c.in_ok-error.ensures in
    let all = answered both c.args.frame c.args.plane (sym c.in_ok-check_unread.ensures) c.in_ok-error.ensures (search rules) in
    rw (c.exact.ensures, c.sample_max.ensures, ← whole.1) (ap Ok (differs _ _ (λ z. omega (arith, z, whole.1))) ∙ rw (← whole.1) at all)

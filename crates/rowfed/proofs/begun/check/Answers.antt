-- `rowfed::begun::check` meets its contract: what the planes will share, then the kernel and the scratch. Assumes nothing.
use Rattle.std.proofs.Common.{sym, ◌∙◌}
use borrow.Author.Tests.{lt-leb, le-leb}
use Rattle.plane.specs.Inner.Seen.{sized}
use Rattle.ssim.specs.Answer.{lent_tests}
use Rattle.ssim.proofs.Accept.{taps_count}
use Rattle.rowfed.proofs.Accept.{begin_in_parts, sides_few}
use Rattle.rowfed.proofs.begun.check.Goals as goal

pub returns-then-not-is_lawful : goal.returns-then-not-is_lawful
unfolding lent_tests
returns-then-not-is_lawful g c =
    sym (begin_in_parts (sized g.S.Stored.WIDE c.args.format) c.args.kernel.now c.args.lent
    ∙ rw (← c.in_ok-check_size.ensures, sym c.is_lawful.ensures ∙ c.if-not-is_lawful.true))

pub scratch_places-requires : goal.scratch_places-requires
scratch_places-requires g c = let count = taps_count _ (sym c.is_lawful.ensures ∙ c.if-not-is_lawful.false) in
    (count.0, count.1, sides_few _ (sym c.in_ok-check_size.ensures))

pub returns-then-lent-scratch_places : goal.returns-then-lent-scratch_places
unfolding lent_tests
returns-then-lent-scratch_places g c =
    sym (begin_in_parts (sized g.S.Stored.WIDE c.args.format) c.args.kernel.now c.args.lent
    ∙ rw (
      ← c.in_ok-check_size.ensures,
      sym c.is_lawful.ensures ∙ c.if-not-is_lawful.false,
      lt-leb _ _ (rw c.scratch_places.ensures at c.if-lent-scratch_places.true),
    ))

pub returns : goal.returns
unfolding lent_tests
returns g c =
    sym (begin_in_parts (sized g.S.Stored.WIDE c.args.format) c.args.kernel.now c.args.lent
    ∙ rw (
      ← c.in_ok-check_size.ensures,
      sym c.is_lawful.ensures ∙ c.if-not-is_lawful.false,
      le-leb _ _ (rw c.scratch_places.ensures at c.if-lent-scratch_places.false),
    ))

-- `decibels::of_record` meets its contract: the error is at most P, and P has room. Assumes nothing.
use mathlib.Core.Path.{◌≡◌}
use mathlib.Core.Bool.{true}
use borrow.Author.Rules.{rules}
use Rattle.psnr.specs.Record.{record_suits}
use Rattle.decibels.proofs.Suits.{record_suits_lem}
use Rattle.decibels.proofs.of_record.Goals as goal

pub answer-requires : goal.answer-requires
answer-requires c =
    let suits : record_suits c.args.r ≡ true = search rules in
    let s = record_suits_lem _ suits in rw c.peak_of.ensures (s.below, s.fits)

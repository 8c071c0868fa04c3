-- `decibels::of_total` meets its contract: the error is at most P, and P has room. Assumes nothing.
use mathlib.Core.Path.{◌≡◌}
use mathlib.Core.Bool.{true}
use borrow.Author.Rules.{rules}
use Rattle.decibels.specs.Answer.{total_suits}
use Rattle.decibels.proofs.Suits.{total_suits_lem}
use Rattle.decibels.proofs.of_total.Goals as goal

pub answer-requires : goal.answer-requires
answer-requires c =
    let suits : total_suits c.args.t ≡ true = search rules in
    let s = total_suits_lem _ suits in rw c.peak_of.ensures (s.below, s.fits)

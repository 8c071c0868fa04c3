-- Every total that is taken is that of some series, so that 10 is given exactly where no series has it. Assumes nothing.
use mathlib.Core.Path.{◌≡◌}
use mathlib.Core.Bool.{true, ◌&&◌}
use Prim.Native.Nat.{◌*◌}
use borrow.Author.Tests.{leb-true}
use lib.Dec.{T, leb}
use lib.Ieee.{binary64, fits}
use Rattle.refusal.proofs.Chain.{and_left, and_right}
use Rattle.psnr.specs.declared.Total.{Total}
use Rattle.psnr.specs.Limits.{count_limit, record_limit, total_limit}
use Rattle.psnr.specs.Record.{whole_of, max_suits, error_suits}
use Rattle.psnr.proofs.Whole.{whole_is}
use Rattle.psnr.proofs.Given.{Given, sums_given}
use Rattle.decibels.specs.Hundredths.{peak_of}
use Rattle.decibels.specs.Answer.{total_suits}
use Rattle.decibels.proofs.Suits.{total_suits_lem}

pub total_given : (t : Total) → T (fits binary64 t.sq_err) → total_suits t ≡ true → Given (whole_of t.sq_err) t.n t.sample_max
unfolding total_suits peak_of total_limit
total_given t double s =
    let a = leb 1 t.n in
    let b = leb t.n (record_limit * count_limit) in
    let c = max_suits t.sample_max in
    let all = total_suits_lem t s in
    let rest = and_left (a && b && c) (error_suits (peak_of t.n t.sample_max) t.sq_err) s in
    let count = and_left (a && b) c rest in
    sums_given t.sample_max (and_right (a && b) c rest) (whole_of t.sq_err) t.n
    (leb-true _ _ (and_left a b count)) (leb-true _ _ (and_right a b count)) all.below (whole_is t.sq_err double all.whole).1

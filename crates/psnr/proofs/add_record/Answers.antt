-- `psnr::add_record` meets its contract. Assumes nothing.
use Rattle.std.proofs.Common.{◌≡◌, true, T, sym, subst, rules}
use Rattle.psnr.specs.Record.{joins}
use Rattle.psnr.proofs.Records.{joins_suits, suits_whole}
use Rattle.psnr.proofs.add_record.Goals as goal

pub float_to_int-r : goal.float_to_int-r
float_to_int-r c =
    let suits : joins c.args.t.sample_max c.args.r ≡ true = search rules in
    subst T (sym (suits_whole _ (joins_suits _ _ suits))) tt

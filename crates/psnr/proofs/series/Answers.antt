-- `psnr::series` meets its contract: its run is the fold of all records. Assumes nothing.
use Rattle.std.proofs.Common.{◌≡◌, fold, ap, ◌∙◌, rules}
use Rattle.psnr.specs.Inner.Fold.{run_step, run_start, run_finish}
use Rattle.psnr.proofs.Fold.{series_is}
use Rattle.psnr.proofs.series.Goals as goal

pub returns : goal.returns
returns c =
    let folded : c.fold.result ≡ fold run_step run_start c.args.records.now = search rules in
    c.finish.ensures ∙ ap run_finish folded ∙ series_is c.args.records.now

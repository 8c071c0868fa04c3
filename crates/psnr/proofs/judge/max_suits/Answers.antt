-- `psnr::judge::max_suits` meets its contract: `any` of the depths is the definition's walk over them. Assumes nothing.
use Rattle.std.proofs.Common.{ℕ, ◌+◌, Bool, eqb, refl, ◌∙◌, rules, tests}
use Rattle.std.proofs.lemmas.Iterator.{YieldsList-from_range}
use Rattle.std.proofs.lemmas.Iterator.Search.{any_from_yields_List}
use Rattle.plane.specs.Limits.{most_depth}
use Rattle.plane.specs.Plane.{max_of}
use Rattle.psnr.specs.Record.{max_suits}
use Rattle.psnr.proofs.Records.{some_range}
use Rattle.psnr.proofs.judge.max_suits.Goals as goal

pub returns : goal.returns
unfolding max_suits most_depth
returns c =
    let test : ℕ → Bool = λ i. eqb c.args.max (max_of (i + 1)) in
    any_from_yields_List test _ _ _ c.any.ensures.ran (YieldsList-from_range 0 12 12 refl refl) (λ x q b k. search (rules, tests))
    ∙ some_range test 12

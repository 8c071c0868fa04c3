-- What the search over the rows stopped at is the chart's.
use Rattle.std.proofs.Common.{eqb, rules, tests}
use Rattle.std.proofs.lemmas.Iterator.{YieldsList-from_slice}
use Rattle.std.proofs.lemmas.Iterator.Search.{find_from_yields_List}
use Rattle.kernel_chart.proofs.Row.{found}
use Rattle.kernel_chart.proofs.find.Goals as goal

pub returns : goal.returns
returns c =
    found c.all_rows.result.now c.args.height c.find.result c.all_rows.ensures
    (find_from_yields_List (λ row. eqb row.height c.args.height) _ _ _ c.find.ensures.ran (YieldsList-from_slice c.all_rows.result.now cc)
    (λ x b q k. search (rules, tests)))

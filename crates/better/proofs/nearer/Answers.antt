-- `better::nearer` meets its contract: by both findings. Assumes nothing.
use mathlib.Core.Path.{ap₂, ◌∙◌}
use Rattle.better.specs.Inner.Judged.{decided}
use Rattle.better.proofs.Judging.{decided_better}
use Rattle.better.proofs.nearer.Goals as goal

pub returns : goal.returns
returns g c = c.decide.ensures ∙ ap₂ decided c.judge.ensures c.judge-2.ensures ∙ decided_better _

-- `decibels::answer` meets its contract: the chart is the one of the specs. Assumes nothing.
use Rattle.std.proofs.Common.{rules}
use Rattle.decibels.specs.Inner.Chart.{chart}
use Rattle.decibels.proofs.answer.Goals as goal

pub place-k-requires-clause-entries_value : goal.place-k-requires-clause-entries_value
unfolding chart
place-k-requires-clause-entries_value c = search rules

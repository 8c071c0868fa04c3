-- The taps before k are summed.
use Rattle.std.proofs.Common.{◌≡◌, ◌≤◌}
use Rattle.plane.specs.Plane.{sample_at}
use Rattle.plane.specs.Inner.Seen.{seen}
use Rattle.window.specs.Inner.Columns.{column_to}
use Rattle.window.proofs.columns.column.Given as goal

abbrev pub invariant-loop-k : goal.invariant-loop-k
invariant-loop-k g l =
    let value = g.S.Sample.value in
    (l.initial.k ≤ l.k) × (l.k ≤ l.k-end)
    × (l.t ≡ column_to l.kernel l.p.format.height (sample_at (seen value l.p.a)) (sample_at (seen value l.p.b)) l.x l.y l.k)

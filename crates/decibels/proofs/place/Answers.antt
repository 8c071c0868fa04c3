-- `decibels::place` meets its contract: the chart rises, and so it is parted at the place that is sought. Assumes nothing.
use Rattle.std.proofs.Common.{ℕ, ◌*◌, leb, rules, arith}
use Rattle.std.proofs.lemmas.List.Sorted.{IsPartitionPoint-from_clause, IsPartitionedBy-leb}
use Rattle.decibels.specs.Hundredths.{chart_unit}
use Rattle.decibels.specs.Inner.Chart.{chart}
use Rattle.decibels.proofs.Room.{product_room}
use Rattle.decibels.proofs.Search.{product, PartedAt, products_rise, some_fit, place_found}
use Rattle.decibels.proofs.place.Goals as goal

parted : (c : goal.After-partition_point) → PartedAt c.args.peak c.args.error c.partition_point.result
unfolding chart_unit
parted c =
    let P = c.args.peak in
    let t = c.args.error in
    let b = c.requires.error_bound in
    IsPartitionPoint-from_clause (λ (e : ℕ). leb (product P t e) (P * chart_unit)) chart c.partition_point.result
    (rw c.requires.entries_value at c.partition_point.ensures.partitioned)
    (IsPartitionedBy-leb (product P t) chart (P * chart_unit) (products_rise P t b.1 b.2))
    (λ a r q k. search rules)

pub overflow_mul-most : goal.overflow_mul-most
unfolding chart_unit
overflow_mul-most c = omega (arith, product_room {m = chart_unit} c.requires.error_bound.2 (omega arith))

pub overflow_sub-result : goal.overflow_sub-result
overflow_sub-result c = let b = c.requires.error_bound in some_fit _ _ b.1 b.2 _ (parted c)

pub returns : goal.returns
returns c = let b = c.requires.error_bound in place_found _ _ b.1 b.2 _ (parted c) (rw c.requires.entries_value at c.partition_point.ensures.bound)

-- A place that both tests find inside is weighed; another adds nothing.
use Rattle.std.proofs.Common.{◌+◌, ◌-◌, ◌/◌, length, arith}
use Rattle.std.proofs.lemmas.List.{length-map}
use Rattle.plane.specs.Inner.Seen.{planes}
use Rattle.plane.proofs.Rows.{inside}
use Rattle.plain.proofs.Parts.{found, reaches, weighed_fits}
use Rattle.plain.proofs.sums.place.Goals as goal

pub sample-requires : goal.sample-requires
sample-requires g c =
    let a = c.args in
    let in_both = found a.kernel.now a.p.format.width a.p.format.height a.x a.y a.i a.j c.inside.ensures c.inside-2.ensures c.if-not-inside.false in
    let reached = reaches a.kernel.now a.p.format.width a.p.format.height a.x a.y a.i a.j in_both in
    let off = length a.kernel.now / 2 in
    rw length-map at (
    inside {x = a.x + a.j - off} {y = a.y + a.i - off} a.p.a.stride c.requires.accepted_pair.each.0.bounded.long (omega (arith, reached)) (omega (arith, reached))
    )

pub sample-requires-2 : goal.sample-requires-2
sample-requires-2 g c =
    let a = c.args in
    let in_both = found a.kernel.now a.p.format.width a.p.format.height a.x a.y a.i a.j c.inside.ensures c.inside-2.ensures c.if-not-inside.false in
    let reached = reaches a.kernel.now a.p.format.width a.p.format.height a.x a.y a.i a.j in_both in
    let off = length a.kernel.now / 2 in
    rw length-map at (
    inside {x = a.x + a.j - off} {y = a.y + a.i - off} a.p.b.stride c.requires.accepted_pair.each.1.0.bounded.long (omega (arith, reached)) (omega (arith, reached))
    )

pub weighed-requires : goal.weighed-requires
weighed-requires g c =
    let a = c.args in
    let r = c.requires in
    let in_both = found a.kernel.now a.p.format.width a.p.format.height a.x a.y a.i a.j c.inside.ensures c.inside-2.ensures c.if-not-inside.false in
    rw (c.sample.ensures, c.sample-2.ensures) (
    weighed_fits (planes g.S.Sample.value g.S.Stored.WIDE a.p) r.accepted_pair a.kernel.now r.kernel_value a.x a.y (omega arith) (omega arith) _ _
    (omega arith) (omega arith) in_both
    )

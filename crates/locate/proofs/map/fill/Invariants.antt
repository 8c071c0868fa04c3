-- `locate::map::fill` meets its contract. The loop's invariant: the first places have the rows of tiles passed. Assumes nothing.
use Rattle.std.proofs.Common.{◌≡◌, ◌*◌, ◌≤◌, length, take}
use Rattle.plane.specs.Inner.Seen.{planes}
use Rattle.locate.specs.Map.{tiles_along, map_to}
use Rattle.locate.proofs.map.fill.Given as goal

abbrev pub invariant-loop-j : goal.invariant-loop-j
invariant-loop-j g l =
    (l.j ≤ tiles_along l.p.format.height) × (length l.map ≡ length l.initial.map)
    × (take (l.j * l.across) l.map ≡ map_to (planes g.S.Sample.value g.S.Stored.WIDE l.p) l.j)

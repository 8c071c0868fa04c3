-- The pairs of two rows are those of row i of the planes.
use Rattle.row_ring.proofs.Pairs.{pairs_put}
use Rattle.row_ring.proofs.store_row.Goals as goal

pub returns : goal.returns
returns g c =
    let p = c.args.p in
    pairs_put g.S.Sample.value p.a.samples.now p.b.samples.now _ _ p.a.stride p.b.stride p.format.width p.format.height c.args.i c.args.to _ _
    c.row.ensures c.row-2.ensures c.requires.i_lt_height.0 c.requires.long c.requires.long_2 c.store_pairs.ensures

-- `rowfed::taken::take` meets its contract. Assumes nothing.
use Prim.Native.Nat.{ℕ, ◌-◌, ◌≤◌}
use native.Mathlib.Omega.{arith}
use borrow.Rule.Slice.PartMut.{same_len_mid}
use lib.ListN.{length}
use Rattle.row_ring.specs.Ring.{ring_places}
use Rattle.rowfed.proofs.Tidied.{tidy, tidy_clean}
use Rattle.rowfed.proofs.taken.take.Goals as goal

pub take_rows-requires : goal.take_rows-requires
take_rows-requires g c =
    let n : ℕ = ring_places c.args.by.ring in
    let left : ℕ = length c.args.used.now - n in
    let fits : n ≤ length c.args.used.now = omega (arith, c.requires.roomy.1) in
    record {
      height_bound = c.requires.height_bound;
      long = c.requires.long;
      roomy = (c.requires.roomy.0, omega (arith, c.requires.roomy.1, same_len_mid n left c.args.used.now c.clear.new.s c.clear.auto.s));
      clean = rw (tidy n c.args.used.now c.clear.new.s fits c.clear.ensures) (tidy_clean c.args.by.ring c.args.used.now left fits);
      kernel = c.requires.kernel;
      lent_total_value = c.requires.lent_total_value;
    }

pub returns : goal.returns
returns g c =
    let fits : ring_places c.args.by.ring ≤ length c.args.used.now = omega (arith, c.requires.roomy.1) in
    rw (tidy (ring_places c.args.by.ring) c.args.used.now c.clear.new.s fits c.clear.ensures) at c.take_rows.ensures

-- `row_suits` of bytes, also where they are not read. Assumes nothing.
use Rattle.std.proofs.Common.{arith, sym, ◌∙◌}
use Rattle.std.proofs.lemmas.List.{map-id}
use borrow.Author.Tests.{le-leb}
use Rattle.plane.proofs.Rows.{bytes_suit}
use Rattle.plane.proofs.U8Stored.row_suits.Goals as goal

pub returns-then-max-ge-BYTE_MAX : goal.returns-then-max-ge-BYTE_MAX
returns-then-max-ge-BYTE_MAX c =
    let top = c.if-max-ge-BYTE_MAX.true in
    le-leb 255 c.args.max top ∙ sym (rw map-id (bytes_suit c.args.max c.args.row.now (λ i. omega (arith, c.type_inv.row i)) top))

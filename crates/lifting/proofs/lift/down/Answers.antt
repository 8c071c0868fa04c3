-- `down` takes [y b s] away. Assumes nothing.
use mathlib.Core.Path.{◌∙◌}
use native.Mathlib.Omega.{arith}
use borrow.Author.Rules.{rules}
use mir.Facts.{to_z-of_z}
use Rattle.lifting.proofs.Size.{kept, again}
use Rattle.lifting.proofs.lift.down.Goals as goal

pub scaled-requires : goal.scaled-requires
scaled-requires c = record {
  a_bound = omega (arith, kept c.args.y);
  h_bound = search rules;
  factor = search rules;
}

pub sub-requires : goal.sub-requires
sub-requires c = omega (arith, kept c.args.x, kept c.args.y)

pub returns : goal.returns
returns c = again _ _ c.sub.result c.sub.type_inv
    (record {
      is =
          c.sub.ensures.is
          ∙ rw (c.scaled.ensures.is, to_z-of_z c.ranges.x, to_z-of_z c.ranges.y, to_z-of_z c.ranges.b);
      size = omega (arith, kept c.args.x, kept c.args.y);
    })

-- `window::columns::put` meets its contract. Assumes nothing.
use mir.Syntax.{w64}
use mir.ValLaws.{to_z_pos}
use Rattle.window.proofs.columns.put.Goals as goal

pub overflow_cast-cols : goal.overflow_cast-cols
overflow_cast-cols c = record { sfits = c.requires.fits 0 }

pub overflow_cast-cols-2 : goal.overflow_cast-cols-2
overflow_cast-cols-2 c = record { sfits = c.requires.fits 1 }

pub overflow_cast-cols-3 : goal.overflow_cast-cols-3
overflow_cast-cols-3 c = record { sfits = c.requires.fits 2 }

pub overflow_cast-cols-4 : goal.overflow_cast-cols-4
overflow_cast-cols-4 c = record { sfits = c.requires.fits 3 }

pub overflow_cast-cols-5 : goal.overflow_cast-cols-5
overflow_cast-cols-5 c = record { sfits = c.requires.fits 4 }

pub returns : goal.returns
returns c = simp (
  to_z_pos w64 c.args.t.mux (c.requires.fits 0),
  to_z_pos w64 c.args.t.muy (c.requires.fits 1),
  to_z_pos w64 c.args.t.x2 (c.requires.fits 2),
  to_z_pos w64 c.args.t.xy (c.requires.fits 3),
  to_z_pos w64 c.args.t.y2 (c.requires.fits 4),
)

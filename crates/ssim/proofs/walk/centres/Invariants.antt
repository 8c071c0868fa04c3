-- `ssim::walk::centres` meets its contract. Assumes nothing.
use mathlib.Core.Path.{◌≡◌}
use Prim.Native.Nat.{◌≤◌}
use Rattle.window.specs.Inner.Columns.{moments_in}
use Rattle.ssim.specs.Score.{row_of}
use Rattle.ssim.proofs.walk.centres.Given as goal

abbrev pub invariant-loop-x : goal.invariant-loop-x
invariant-loop-x l = (l.x ≤ l.width) × (l.t ≡ row_of l.max2 (moments_in l.kernel l.cols l.width l.down) l.initial.t l.x)

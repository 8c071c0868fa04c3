-- `window::row::moments_at` meets its contract. Assumes nothing.
use native.Mathlib.Nat.{mul-le-mul}
use native.Mathlib.Omega.{arith}
use Rattle.kernel.proofs.Says.{total_room}
use Rattle.window.proofs.Sums.Windows.{weight_le}
use Rattle.window.proofs.row.moments_at.Goals as goal

pub overflow_mul-w : goal.overflow_mul-w
overflow_mul-w c = let across = rw (← c.weight.ensures) at (weight_le c.args.kernel.now c.args.width c.args.x c.requires.kernel) in
    omega (arith, mul-le-mul c.requires.x_lt_width.3 across, mul-le-mul total_room total_room)

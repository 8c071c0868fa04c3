-- The fixed kernel serves.
use Rattle.std.proofs.Common.{sym}
use Rattle.std.proofs.Math.Nat.{le_refl}
use Rattle.kernel.specs.Kernel.{fixed_kernel, fixed_total}
use Rattle.kernel.proofs.Says.{kernel_says, fixed_lawful}
use Rattle.window.proofs.Serves.{kernel_serves}
use Rattle.msssim.proofs.scale.totals.Goals as goal

pub totals-requires-clause-kernel : goal.totals-requires-clause-kernel
unfolding fixed_total
totals-requires-clause-kernel c = kernel_serves fixed_total fixed_kernel (le_refl fixed_total) fixed_lawful

pub totals-requires-clause-total_value : goal.totals-requires-clause-total_value
unfolding fixed_total
totals-requires-clause-total_value c = sym (kernel_says fixed_total fixed_kernel fixed_lawful).sum

-- What MS-SSIM's scratch comes to: L of its kernel is 16, and SSIM's column sums under it fit. Assumes nothing.
use mathlib.Core.Path.{◌≡◌, refl}
use Prim.Native.Nat.{ℕ, ◌*◌, ◌≤◌}
use native.Mathlib.Omega.{arith}
use lib.ListN.{length}
use Rattle.number.specs.Steps.{fold_to}
use Rattle.kernel.specs.Kernel.{fixed_kernel}
use Rattle.window.specs.Inner.Columns.{columns_of}
use Rattle.ssim.specs.Scratch.{doubled_below, next_power}
use Rattle.msssim.specs.Scratch.{places_needed}

-- L by SSIM's own rule
pub fixed_lines : next_power (length fixed_kernel) ≡ 16
unfolding next_power doubled_below fold_to
fixed_lines = refl

pub places_96 : (width : ℕ) → places_needed width ≡ 96 * width
places_96 width = rw fixed_lines (omega arith)

pub columns_fit : (width : ℕ) → 1 ≤ width → 5 * columns_of fixed_kernel width ≤ places_needed width
columns_fit width some = omega (arith, places_96 width)

-- Any lawful kernel serves the sums, lent or fixed. Assumes nothing.
use mathlib.Core.Path.{◌≡◌}
use mathlib.Core.Bool.{true}
use mathlib.Core.List.{List}
use Prim.Native.Nat.{ℕ, ◌≤◌}
use native.Mathlib.Omega.{arith}
use Rattle.kernel.specs.Kernel.{fixed_total, lawful}
use Rattle.kernel.proofs.Says.{kernel_says}
use Rattle.window.specs.Inner.Parts.{Kernel}

-- up to the fixed one's total
pub kernel_serves : (total : ℕ) (ker : List ℕ) → total ≤ fixed_total → lawful total ker ≡ true → Kernel ker
kernel_serves total ker l e =
    let s = kernel_says total ker e in
    record {
      odd = s.odd;
      short = s.short;
      light = omega (arith, s.sum);
      mirror = s.mirror;
    }

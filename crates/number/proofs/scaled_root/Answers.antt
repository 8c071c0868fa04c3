-- `number::scaled_root` meets its contract. Assumes nothing.
use Rattle.std.proofs.Common.{ℕ, ◌/◌, false, ap, ◌∙◌, arith}
use lib.Ieee.{binary64, units}
use Rattle.number.proofs.Doubles.{units_bits}
use Rattle.number.proofs.scaled_root.Goals as goal

pub returns : goal.returns
returns c = let s = c.nearest-s.ensures in
    units_bits (c.args.w / 2) c.nearest-s.result (omega arith) s.1 s.2
    ∙ ap (λ (x : ℕ). units binary64 false x (c.args.w / 2)) s.0

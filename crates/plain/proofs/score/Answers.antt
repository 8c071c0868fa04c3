-- What holds where no test refuses.
use Rattle.std.proofs.Common.{sym}
use Rattle.plain.proofs.Accept.{sound}
use Rattle.plain.proofs.score.Goals as goal

pub scored-requires : goal.scored-requires
scored-requires g c =
    let s = sound _ _ (sym c.in_ok-check.ensures) in
    record { accepted_pair = s.0; kernel_value = s.1 }

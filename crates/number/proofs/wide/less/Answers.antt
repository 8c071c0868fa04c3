-- `number::wide::less` meets its contract. Assumes nothing.
use Rattle.std.proofs.Common.{◌≡◌, ◌^◌, arith}
use Rattle.number.specs.Inner.Wide.{value_of}
use Rattle.number.proofs.Words.{same_high, other_high}
use Rattle.number.proofs.wide.less.Goals as goal

pub returns-then-a-b : goal.returns-then-a-b
unfolding value_of
returns-then-a-b c = let s = c.args in
    same_high (2 ^ 64) s.a.hi s.a.lo s.b.hi s.b.lo (omega arith)

pub returns-else-a-b : goal.returns-else-a-b
unfolding value_of
returns-else-a-b c = let s = c.args in
    other_high (2 ^ 64) s.a.hi s.a.lo s.b.hi s.b.lo (omega arith) (omega arith) (λ (e : s.a.hi ≡ s.b.hi). omega arith)

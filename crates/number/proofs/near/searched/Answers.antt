-- `number::near::searched` meets its contract. Assumes nothing.
use Rattle.number.proofs.Whole.{nearest_up, nearest_stay}
use Rattle.number.proofs.near.searched.Goals as goal

pub returns-then-s-n : goal.returns-then-s-n
returns-then-s-n c = let s = c.isqrt-s.ensures in nearest_up _ _ c.requires s.square_le s.next_square_gt c.if-s-n.true

pub returns-else-s-n : goal.returns-else-s-n
returns-else-s-n c = let s = c.isqrt-s.ensures in nearest_stay _ _ c.requires s.square_le s.next_square_gt c.if-s-n.false

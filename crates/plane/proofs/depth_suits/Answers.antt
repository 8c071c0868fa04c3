-- `plane::depth_suits` meets its contract: one law for each kind of depth. Assumes nothing.
use native.Mathlib.Omega.{arith}
use Rattle.plane.specs.Limits.{least_depth, most_depth}
use Rattle.plane.proofs.Depth.{byte_depth, word_depth, below_depths, above_depths}
use Rattle.plane.proofs.depth_suits.Goals as goal

pub returns-in-1-to-8 : goal.returns-in-1-to-8
unfolding least_depth most_depth
returns-in-1-to-8 c = byte_depth _ _ (omega arith) (omega arith)

pub returns-in-9-to-12 : goal.returns-in-9-to-12
unfolding least_depth most_depth
returns-in-9-to-12 c = word_depth _ _ (omega arith) (omega arith)

pub returns-in_default : goal.returns-in_default
unfolding least_depth most_depth
returns-in_default c = below_depths _ _ (omega arith)

pub returns-in_default-2 : goal.returns-in_default-2
unfolding least_depth most_depth
returns-in_default-2 c = above_depths _ _ (omega arith)

-- Laws of depths, and of sample_max. Assumes nothing.
use mathlib.Core.Path.{◌≡◌}
use mathlib.Core.Bool.{Bool, true, false, not}
use Prim.Native.Nat.{ℕ, ◌+◌, ◌*◌, ◌^◌, ◌%◌, ◌≤◌, ◌<◌}
use native.Mathlib.Nat.{one-mul, mod-eq_of_lt, pow-le-pow_right, lt_of_le_of_lt}
use native.Mathlib.Omega.{arith}
use borrow.Author.Tests.{leb-true, le-leb, lt-leb}
use lib.Dec.{leb, lit<}
use lib.Pow.{pow_pos}
use Rattle.refusal.proofs.Chain.{and_left, and_right}
use Rattle.plane.specs.Limits.{least_depth, most_depth}
use Rattle.plane.specs.Plane.{max_of}
use Rattle.plane.specs.Tests.{depth_suits}

-- what test 1 says where it passes
pub depth_says : (wide : Bool) (depth : ℕ) → depth_suits wide depth ≡ true → (least_depth wide ≤ depth) × (depth ≤ most_depth wide)
unfolding depth_suits
depth_says wide depth e =
    (leb-true (least_depth wide) depth (and_left _ _ e), leb-true depth (most_depth wide) (and_right (leb (least_depth wide) depth) _ e))

-- a depth of bytes, a depth of words, and one of neither
pub byte_depth : (wide : Bool) (depth : ℕ) → least_depth false ≤ depth → depth ≤ most_depth false → not wide ≡ depth_suits wide depth
unfolding depth_suits least_depth most_depth
byte_depth false depth l m = rw (le-leb _ _ l, le-leb _ _ m)
byte_depth true depth l m = rw (lt-leb (least_depth true) depth (omega arith))

pub word_depth : (wide : Bool) (depth : ℕ) → least_depth true ≤ depth → depth ≤ most_depth true → wide ≡ depth_suits wide depth
unfolding depth_suits least_depth most_depth
word_depth true depth l m = rw (le-leb _ _ l, le-leb _ _ m)
word_depth false depth l m = rw (le-leb (least_depth false) depth (omega arith), lt-leb depth (most_depth false) (omega arith))

pub below_depths : (wide : Bool) (depth : ℕ) → depth < least_depth false → false ≡ depth_suits wide depth
unfolding depth_suits least_depth most_depth
below_depths false depth l = rw (lt-leb _ _ l)
below_depths true depth l = rw (lt-leb (least_depth true) depth (omega arith))

pub above_depths : (wide : Bool) (depth : ℕ) → most_depth true < depth → false ≡ depth_suits wide depth
unfolding depth_suits least_depth most_depth
above_depths true depth l = rw (le-leb (least_depth true) depth (omega arith), lt-leb _ _ l)
above_depths false depth l = rw (le-leb (least_depth false) depth (omega arith), lt-leb depth (most_depth false) (omega arith))

-- every depth is small enough for a shift of 32 bits
pub depth_small : (wide : Bool) → most_depth wide < 32
unfolding most_depth
depth_small true = lit< tt
depth_small false = lit< tt

-- sample_max by a shift
pub shifted : (depth : ℕ) → depth < 32 → 1 * 2 ^ depth % 2 ^ 32 ≡ max_of depth + 1
unfolding max_of
shifted depth h =
    let l : depth ≤ 31 = omega arith in
    let room : 2 ^ depth < 2 ^ 32 = lt_of_le_of_lt (pow-le-pow_right {n = 2} (lit< tt) l) (lit< tt) in
    rw (one-mul, mod-eq_of_lt room) (omega (arith, pow_pos depth))

pub max_grows : {d e : ℕ} → d ≤ e → max_of d ≤ max_of e
unfolding max_of
max_grows l = omega (arith, pow-le-pow_right {n = 2} (lit< tt) l)

-- sample_max of any depth, and of the depths of bytes
pub max_small : (wide : Bool) {depth : ℕ} → depth ≤ most_depth wide → max_of depth < 2 ^ 12
unfolding max_of most_depth
max_small true l = omega (arith, max_grows l)
max_small false l = omega (arith, max_grows l)

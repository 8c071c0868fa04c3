-- `undo_steps` undoes the steps of its contract. Each group of steps ends in the values as those steps undone of the values before
-- (`at1` ..), and in a bound on what later groups read (`size1` ..). Assumes nothing.
use mathlib.Core.Path.{◌≡◌, refl, ◌∙◌, ap, sym}
use mathlib.Core.List.{List, [], ◌∷◌, ◌++◌}
use Prim.Native.Nat.{◌≤◌}
use native.Mathlib.Omega.{arith}
use lib.IntN.{ℤ, nat_abs}
use borrow.Author.Rules.{rules}
use mir.Facts.{to_z-of_z}
use Rattle.lifting.specs.Inner.Operation.{read32}
use Rattle.lifting.specs.Steps.{Step, run, undo_all, steps, steps1, steps2, steps3, steps4, steps5}
use Rattle.lifting.proofs.Size.{within}
use Rattle.lifting.proofs.Trip.{run_append}
use Rattle.lifting.proofs.undo_steps.Goals as goal

-- ---- the fifth group

args : goal.After-down_wide-t7-2 → List ℤ
args c = c.args.t0 ∷ c.args.t1 ∷ c.args.t2 ∷ c.args.t3 ∷ c.args.t4 ∷ c.args.t5 ∷ c.args.t6 ∷ c.args.t7 ∷ []

values1 : goal.After-down_wide-t7-2 → List ℤ
values1 c = read32 c.args.t0 ∷ read32 c.up_wide-t1.result ∷ read32 c.args.t2 ∷ read32 c.up_wide-t3.result
    ∷ read32 c.args.t4 ∷ read32 c.down_wide-t5-2.result ∷ read32 c.args.t6 ∷ read32 c.down_wide-t7-2.result ∷ []

at1 : (c : goal.After-down_wide-t7-2) → values1 c ≡ run (undo_all steps5) (args c)
unfolding steps5 values1 args
at1 c = simp (
  c.down_wide-t5.ensures.is,
  c.up_wide-t3.ensures.is,
  c.down_wide-t5-2.ensures.is,
  c.down_wide-t7.ensures.is,
  c.up_wide-t1.ensures.is,
  c.down_wide-t7-2.ensures.is,
  to_z-of_z c.ranges.t0,
  to_z-of_z c.ranges.t1,
  to_z-of_z c.ranges.t2,
  to_z-of_z c.ranges.t3,
  to_z-of_z c.ranges.t4,
  to_z-of_z c.ranges.t5,
  to_z-of_z c.ranges.t6,
  to_z-of_z c.ranges.t7,
)

size1 : (c : goal.After-down_wide-t7-2) → (nat_abs (read32 c.args.t0) ≤ 16777216) × (nat_abs (read32 c.args.t2) ≤ 16777216) × (nat_abs (read32 c.args.t4) ≤ 16777216)
    × (nat_abs (read32 c.args.t6) ≤ 16777216) × (nat_abs (read32 c.up_wide-t3.result) ≤ 50331648)
    × (nat_abs (read32 c.down_wide-t5-2.result) ≤ 83886080) × (nat_abs (read32 c.up_wide-t1.result) ≤ 50331648)
    × (nat_abs (read32 c.down_wide-t7-2.result) ≤ 83886080)
size1 c = omega (arith, within)

-- ---- the fourth group

pub add-t1-requires : goal.add-t1-requires
add-t1-requires c = omega (arith, size1 c)

pub sub-t3-requires : goal.sub-t3-requires
sub-t3-requires c = omega (arith, size1 c.before.before)

pub add-t5-requires : goal.add-t5-requires
add-t5-requires c = omega (arith, size1 c.before.before.before)

pub sub-t7-requires : goal.sub-t7-requires
sub-t7-requires c = omega (arith, size1 c.before.before.before.before.before)

pub up_wide-t3-requires-2 : goal.up_wide-t3-requires-2
up_wide-t3-requires-2 c = record { y_bound = omega (arith, size1 c.before.before.before.before.before.before); factor = search rules }

pub down_wide-t5-requires-3 : goal.down_wide-t5-requires-3
down_wide-t5-requires-3 c = record { y_bound = omega (arith, size1 c.before.before.before.before.before.before.before); factor = search rules }

pub down_wide-t3-requires : goal.down_wide-t3-requires
down_wide-t3-requires c = record { y_bound = omega (arith, size1 c.before.before.before.before.before.before.before.before); factor = search rules }

prior2 : goal.After-down_wide-t3 → goal.After-down_wide-t7-2
prior2 c = c.before.before.before.before.before.before.before.before.before

abbrev upTo2 : List Step
upTo2 = undo_all steps5 ++ undo_all steps4

values2 : goal.After-down_wide-t3 → List ℤ
values2 c = read32 c.args.t0 ∷ read32 c.add-t1.result ∷ read32 c.args.t2 ∷ read32 c.down_wide-t3.result
    ∷ read32 c.args.t4 ∷ read32 c.down_wide-t5-3.result ∷ read32 c.args.t6 ∷ read32 c.sub-t7.result ∷ []

at2 : (c : goal.After-down_wide-t3) → values2 c ≡ run (undo_all steps4) (values1 (prior2 c))
unfolding steps4 values2 values1 prior2
at2 c = simp (
  c.add-t1.ensures.is,
  c.halved-h1.ensures.is,
  c.sub-t3.ensures.is,
  c.add-t5.ensures.is,
  c.halved-h5.ensures.is,
  c.sub-t7.ensures.is,
  c.up_wide-t3-2.ensures.is,
  c.down_wide-t5-3.ensures.is,
  c.down_wide-t3.ensures.is,
)

all2 : (c : goal.After-down_wide-t3) → values2 c ≡ run upTo2 (args (prior2 c))
all2 c = at2 c ∙ ap (run (undo_all steps4)) (at1 (prior2 c)) ∙ sym (run_append (undo_all steps5) (undo_all steps4) (args (prior2 c)))

size2 : (c : goal.After-down_wide-t3) → (nat_abs (read32 c.args.t0) ≤ 16777216) × (nat_abs (read32 c.args.t2) ≤ 16777216) × (nat_abs (read32 c.args.t4) ≤ 16777216)
    × (nat_abs (read32 c.args.t6) ≤ 16777216) × (nat_abs (read32 c.add-t1.result) ≤ 100663296)
    × (nat_abs (read32 c.halved-h1.result) ≤ 50331648) × (nat_abs (read32 c.sub-t7.result) ≤ 167772160)
    × (nat_abs (read32 c.down_wide-t5-3.result) ≤ 436207616) × (nat_abs (read32 c.down_wide-t3.result) ≤ 704643072)
unfolding prior2
size2 c = omega (arith, size1 (prior2 c))

-- ---- the third group

pub up_wide-t6-requires : goal.up_wide-t6-requires
up_wide-t6-requires c = record { y_bound = omega (arith, size2 c); factor = search rules }

pub down_wide-t2-requires : goal.down_wide-t2-requires
down_wide-t2-requires c = record { y_bound = omega (arith, size2 c.before); factor = search rules }

pub up_wide-t6-requires-2 : goal.up_wide-t6-requires-2
up_wide-t6-requires-2 c = record { y_bound = omega (arith, size2 c.before.before); factor = search rules }

pub down_wide-t4-requires : goal.down_wide-t4-requires
down_wide-t4-requires c = record { y_bound = omega (arith, size2 c.before.before.before.before); factor = search rules }

pub up_wide-t0-requires-2 : goal.up_wide-t0-requires-2
up_wide-t0-requires-2 c = record { y_bound = omega (arith, size2 c.before.before.before.before.before); factor = search rules }

prior3 : goal.After-up_wide-t0-2 → goal.After-down_wide-t3
prior3 c = c.before.before.before.before.before.before

first3 : goal.After-up_wide-t0-2 → goal.After-down_wide-t7-2
first3 c = prior2 (prior3 c)

abbrev upTo3 : List Step
upTo3 = upTo2 ++ undo_all steps3

values3 : goal.After-up_wide-t0-2 → List ℤ
values3 c = read32 c.up_wide-t0-2.result ∷ read32 c.add-t1.result ∷ read32 c.down_wide-t2.result ∷ read32 c.down_wide-t3.result
    ∷ read32 c.down_wide-t4.result ∷ read32 c.down_wide-t5-3.result ∷ read32 c.up_wide-t6-2.result ∷ read32 c.sub-t7.result ∷ []

at3 : (c : goal.After-up_wide-t0-2) → values3 c ≡ run (undo_all steps3) (values2 (prior3 c))
unfolding steps3 values3 values2 prior3
at3 c = simp (
  c.up_wide-t6.ensures.is,
  c.down_wide-t2.ensures.is,
  c.up_wide-t6-2.ensures.is,
  c.up_wide-t0.ensures.is,
  c.down_wide-t4.ensures.is,
  c.up_wide-t0-2.ensures.is,
)

all3 : (c : goal.After-up_wide-t0-2) → values3 c ≡ run upTo3 (args (first3 c))
unfolding first3
all3 c = at3 c ∙ ap (run (undo_all steps3)) (all2 (prior3 c)) ∙ sym (run_append upTo2 (undo_all steps3) (args (first3 c)))

size3 : (c : goal.After-up_wide-t0-2) → (nat_abs (read32 c.add-t1.result) ≤ 100663296) × (nat_abs (read32 c.halved-h1.result) ≤ 50331648)
    × (nat_abs (read32 c.sub-t7.result) ≤ 167772160) × (nat_abs (read32 c.down_wide-t5-3.result) ≤ 436207616)
    × (nat_abs (read32 c.down_wide-t3.result) ≤ 704643072) × (nat_abs (read32 c.down_wide-t2.result) ≤ 50331648)
    × (nat_abs (read32 c.up_wide-t6-2.result) ≤ 83886080) × (nat_abs (read32 c.down_wide-t4.result) ≤ 50331648)
    × (nat_abs (read32 c.up_wide-t0-2.result) ≤ 83886080)
unfolding prior3
size3 c = omega (arith, size2 (prior3 c))

-- ---- the second group

pub sub-t4-requires : goal.sub-t4-requires
sub-t4-requires c = omega (arith, size3 c)

pub sub-t2-requires : goal.sub-t2-requires
sub-t2-requires c = omega (arith, size3 c.before.before)

pub sub-t6-requires : goal.sub-t6-requires
sub-t6-requires c = omega (arith, size3 c.before.before.before)

pub sub-t0-requires : goal.sub-t0-requires
sub-t0-requires c = omega (arith, size3 c.before.before.before.before.before)

prior4 : goal.After-sub-t0 → goal.After-up_wide-t0-2
prior4 c = c.before.before.before.before.before.before

first4 : goal.After-sub-t0 → goal.After-down_wide-t7-2
first4 c = first3 (prior4 c)

abbrev upTo4 : List Step
upTo4 = upTo3 ++ undo_all steps2

values4 : goal.After-sub-t0 → List ℤ
values4 c = read32 c.sub-t0.result ∷ read32 c.add-t1.result ∷ read32 c.sub-t2.result ∷ read32 c.down_wide-t3.result
    ∷ read32 c.sub-t4.result ∷ read32 c.down_wide-t5-3.result ∷ read32 c.sub-t6.result ∷ read32 c.sub-t7.result ∷ []

at4 : (c : goal.After-sub-t0) → values4 c ≡ run (undo_all steps2) (values3 (prior4 c))
unfolding steps2 values4 values3 prior4
at4 c = simp (
  c.sub-t4.ensures.is,
  c.halved-h4.ensures.is,
  c.sub-t2.ensures.is,
  c.sub-t6.ensures.is,
  c.halved-h6.ensures.is,
  c.sub-t0.ensures.is,
)

all4 : (c : goal.After-sub-t0) → values4 c ≡ run upTo4 (args (first4 c))
unfolding first4
all4 c = at4 c ∙ ap (run (undo_all steps2)) (all3 (prior4 c)) ∙ sym (run_append upTo3 (undo_all steps2) (args (first4 c)))

size4 : (c : goal.After-sub-t0) → (nat_abs (read32 c.add-t1.result) ≤ 100663296) × (nat_abs (read32 c.halved-h1.result) ≤ 50331648)
    × (nat_abs (read32 c.sub-t7.result) ≤ 167772160) × (nat_abs (read32 c.down_wide-t5-3.result) ≤ 436207616)
    × (nat_abs (read32 c.down_wide-t3.result) ≤ 704643072) × (nat_abs (read32 c.sub-t4.result) ≤ 100663296)
    × (nat_abs (read32 c.halved-h4.result) ≤ 50331648) × (nat_abs (read32 c.sub-t2.result) ≤ 100663296)
    × (nat_abs (read32 c.sub-t6.result) ≤ 167772160) × (nat_abs (read32 c.halved-h6.result) ≤ 83886080)
    × (nat_abs (read32 c.sub-t0.result) ≤ 167772160)
unfolding prior4
size4 c = omega (arith, size3 (prior4 c))

-- ---- the first group

pub sub-t7-requires-2 : goal.sub-t7-requires-2
sub-t7-requires-2 c = omega (arith, size4 c)

pub sub-t6-requires-2 : goal.sub-t6-requires-2
sub-t6-requires-2 c = omega (arith, size4 c.before)

pub add-t2-requires : goal.add-t2-requires
add-t2-requires c = omega (arith, size4 c.before.before.before)

pub sub-t3-requires-2 : goal.sub-t3-requires-2
sub-t3-requires-2 c = omega (arith, size4 c.before.before.before.before)

pub add-t5-requires-2 : goal.add-t5-requires-2
add-t5-requires-2 c = omega (arith, size4 c.before.before.before.before.before)

pub sub-t4-requires-2 : goal.sub-t4-requires-2
sub-t4-requires-2 c = omega (arith, size4 c.before.before.before.before.before.before)

pub add-t0-requires : goal.add-t0-requires
add-t0-requires c = omega (arith, size4 c.before.before.before.before.before.before.before)

pub sub-t1-requires : goal.sub-t1-requires
sub-t1-requires c = omega (arith, size4 c.before.before.before.before.before.before.before.before)

prior5 : goal.After-sub-t1 → goal.After-sub-t0
prior5 c = c.before.before.before.before.before.before.before.before.before

first5 : goal.After-sub-t1 → goal.After-down_wide-t7-2
first5 c = first4 (prior5 c)

abbrev upTo5 : List Step
upTo5 = upTo4 ++ undo_all steps1

values5 : goal.After-sub-t1 → List ℤ
values5 c = read32 c.add-t0.result ∷ read32 c.sub-t1.result ∷ read32 c.add-t2.result ∷ read32 c.sub-t3-2.result
    ∷ read32 c.sub-t4-2.result ∷ read32 c.add-t5-2.result ∷ read32 c.sub-t6-2.result ∷ read32 c.sub-t7-2.result ∷ []

at5 : (c : goal.After-sub-t1) → values5 c ≡ run (undo_all steps1) (values4 (prior5 c))
unfolding steps1 values5 values4 prior5
at5 c = simp (
  c.sub-t7-2.ensures.is,
  c.sub-t6-2.ensures.is,
  c.halved-h3.ensures.is,
  c.add-t2.ensures.is,
  c.sub-t3-2.ensures.is,
  c.add-t5-2.ensures.is,
  c.sub-t4-2.ensures.is,
  c.add-t0.ensures.is,
  c.sub-t1.ensures.is,
  c.halved-h6.ensures.is,
  c.halved-h4.ensures.is,
  c.halved-h1.ensures.is,
)

all5 : (c : goal.After-sub-t1) → values5 c ≡ run upTo5 (args (first5 c))
unfolding first5
all5 c = at5 c ∙ ap (run (undo_all steps1)) (all4 (prior5 c)) ∙ sym (run_append upTo4 (undo_all steps1) (args (first5 c)))

groups : upTo5 ≡ undo_all steps
unfolding steps steps1 steps2 steps3 steps4 steps5
groups = refl

pub returns : goal.returns
unfolding values5 args first5 first4 first3 prior5 prior4 prior3 prior2
returns c = all5 c ∙ ap (λ (l : List Step). run l (args (first5 c))) groups

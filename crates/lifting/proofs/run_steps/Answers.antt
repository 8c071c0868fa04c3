-- `run_steps` runs the steps of its contract. Each group of steps ends in the values as those steps of the values before (`at1` ..), and
-- in a bound on what later groups read (`size1` ..): from the sizes before, or, where those would grow too large, from the multiples of the
-- eight numbers (`sharp2` ..). Assumes nothing.
use mathlib.Core.Path.{◌≡◌, refl, ◌∙◌, ap, sym}
use mathlib.Core.List.{List, [], ◌∷◌, ◌++◌}
use Prim.Native.Nat.{◌≤◌}
use native.Mathlib.Omega.{arith}
use lib.IntN.{ℤ, nat_abs}
use lib.ListN.{take, drop}
use borrow.Author.Rules.{rules}
use mir.Facts.{to_z-of_z}
use Rattle.lifting.specs.Inner.Operation.{read32, run_limit}
use Rattle.lifting.specs.Steps.{Step, run, steps, steps1, steps2, steps3, steps4, steps5}
use Rattle.lifting.proofs.Size.{within}
use Rattle.lifting.proofs.Trip.{run_append}
use Rattle.lifting.proofs.Forms.{Under, sized, pass_sizes}
use Rattle.lifting.proofs.run_steps.Goals as goal

-- ---- the first group

args : goal.After-sub-t7 → List ℤ
args c = c.args.t0 ∷ c.args.t1 ∷ c.args.t2 ∷ c.args.t3 ∷ c.args.t4 ∷ c.args.t5 ∷ c.args.t6 ∷ c.args.t7 ∷ []

values1 : goal.After-sub-t7 → List ℤ
values1 c = read32 c.sub-t0.result ∷ read32 c.sub-t1.result ∷ read32 c.sub-t2.result ∷ read32 c.sub-t3.result
    ∷ read32 c.add-t4.result ∷ read32 c.sub-t5.result ∷ read32 c.add-t6.result ∷ read32 c.sub-t7.result ∷ []

at1 : (c : goal.After-sub-t7) → values1 c ≡ run steps1 (args c)
unfolding steps1 values1 args
at1 c = simp (
  c.sub-t1.ensures.is,
  c.halved-h1.ensures.is,
  c.sub-t0.ensures.is,
  c.add-t4.ensures.is,
  c.halved-h4.ensures.is,
  c.sub-t5.ensures.is,
  c.sub-t3.ensures.is,
  c.halved-h3.ensures.is,
  c.sub-t2.ensures.is,
  c.add-t6.ensures.is,
  c.halved-h6.ensures.is,
  c.sub-t7.ensures.is,
  to_z-of_z c.ranges.t0,
  to_z-of_z c.ranges.t1,
  to_z-of_z c.ranges.t2,
  to_z-of_z c.ranges.t3,
  to_z-of_z c.ranges.t4,
  to_z-of_z c.ranges.t5,
  to_z-of_z c.ranges.t6,
  to_z-of_z c.ranges.t7,
)

size1 : (c : goal.After-sub-t7) → (nat_abs (read32 c.sub-t1.result) ≤ 46340) × (nat_abs (read32 c.halved-h1.result) ≤ 23170)
    × (nat_abs (read32 c.sub-t0.result) ≤ 46340) × (nat_abs (read32 c.add-t4.result) ≤ 46340)
    × (nat_abs (read32 c.halved-h4.result) ≤ 23170) × (nat_abs (read32 c.sub-t5.result) ≤ 46340)
    × (nat_abs (read32 c.sub-t3.result) ≤ 46340) × (nat_abs (read32 c.sub-t2.result) ≤ 46340) × (nat_abs (read32 c.add-t6.result) ≤ 46340)
    × (nat_abs (read32 c.halved-h6.result) ≤ 23170) × (nat_abs (read32 c.sub-t7.result) ≤ 46340)
size1 c = omega (arith, within)

-- ---- the second group

pub add-t0-requires : goal.add-t0-requires
add-t0-requires c = omega (arith, size1 c)

pub sub-t6-requires : goal.sub-t6-requires
sub-t6-requires c = omega (arith, size1 c.before)

pub sub-t2-requires-2 : goal.sub-t2-requires-2
sub-t2-requires-2 c = omega (arith, size1 c.before.before)

pub sub-t4-requires : goal.sub-t4-requires
sub-t4-requires c = omega (arith, size1 c.before.before.before)

prior2 : goal.After-sub-t4 → goal.After-sub-t7
prior2 c = c.before.before.before.before

abbrev upTo2 : List Step
upTo2 = steps1 ++ steps2

values2 : goal.After-sub-t4 → List ℤ
values2 c = read32 c.add-t0.result ∷ read32 c.sub-t1.result ∷ read32 c.sub-t2-2.result ∷ read32 c.sub-t3.result
    ∷ read32 c.sub-t4.result ∷ read32 c.sub-t5.result ∷ read32 c.sub-t6.result ∷ read32 c.sub-t7.result ∷ []

at2 : (c : goal.After-sub-t4) → values2 c ≡ run steps2 (values1 (prior2 c))
unfolding steps2 values2 values1 prior2
at2 c = simp (
  c.add-t0.ensures.is,
  c.sub-t6.ensures.is,
  c.sub-t2-2.ensures.is,
  c.sub-t4.ensures.is,
  c.halved-h6.ensures.is,
  c.halved-h4.ensures.is,
)

all2 : (c : goal.After-sub-t4) → values2 c ≡ run upTo2 (args (prior2 c))
all2 c = at2 c ∙ ap (run steps2) (at1 (prior2 c)) ∙ sym (run_append steps1 steps2 (args (prior2 c)))

sharp2 : (c : goal.After-sub-t4) → Under (46341 ∷ 46340 ∷ 46341 ∷ 46340 ∷ 46341 ∷ 23170 ∷ 46341 ∷ 23170 ∷ []) (values2 c)
unfolding args prior2
sharp2 c = sized upTo2 run_limit _ (args (prior2 c)) _ pass_sizes.0 (all2 c) c.requires

size2 : (c : goal.After-sub-t4) → (nat_abs (read32 c.sub-t1.result) ≤ 46340) × (nat_abs (read32 c.halved-h1.result) ≤ 23170)
    × (nat_abs (read32 c.sub-t5.result) ≤ 23170) × (nat_abs (read32 c.sub-t3.result) ≤ 46340) × (nat_abs (read32 c.sub-t7.result) ≤ 23170)
    × (nat_abs (read32 c.add-t0.result) ≤ 46341) × (nat_abs (read32 c.sub-t6.result) ≤ 46341)
    × (nat_abs (read32 c.sub-t2-2.result) ≤ 46341) × (nat_abs (read32 c.sub-t4.result) ≤ 46341)
unfolding values2 prior2
size2 c = omega (arith, size1 (prior2 c), sharp2 c)

-- ---- the third group, but its last step

pub down-t0-requires : goal.down-t0-requires
down-t0-requires c = let s = size2 c in record { y_bound = omega (arith, s); h_bound = omega (arith, s); factor = search rules }

pub up-t4-requires : goal.up-t4-requires
up-t4-requires c = let s = size2 c.before in record { y_bound = omega (arith, s); h_bound = omega (arith, s); factor = search rules }

pub down-t0-requires-2 : goal.down-t0-requires-2
down-t0-requires-2 c = let s = size2 c.before.before in record { y_bound = omega (arith, s); h_bound = omega (arith, s); factor = search rules }

pub down-t6-requires : goal.down-t6-requires
down-t6-requires c = let s = size2 c.before.before.before in record { y_bound = omega (arith, s); h_bound = omega (arith, s); factor = search rules }

pub up-t2-requires : goal.up-t2-requires
up-t2-requires c = let s = size2 c.before.before.before.before in record { y_bound = omega (arith, s); h_bound = omega (arith, s); factor = search rules }

prior3 : goal.After-up-t2 → goal.After-sub-t4
prior3 c = c.before.before.before.before.before

first3 : goal.After-up-t2 → goal.After-sub-t7
first3 c = prior2 (prior3 c)

abbrev upTo3 : List Step
upTo3 = upTo2 ++ take 5 steps3

values3 : goal.After-up-t2 → List ℤ
values3 c = read32 c.down-t0-2.result ∷ read32 c.sub-t1.result ∷ read32 c.up-t2.result ∷ read32 c.sub-t3.result
    ∷ read32 c.up-t4.result ∷ read32 c.sub-t5.result ∷ read32 c.down-t6.result ∷ read32 c.sub-t7.result ∷ []

at3 : (c : goal.After-up-t2) → values3 c ≡ run (take 5 steps3) (values2 (prior3 c))
unfolding steps3 values3 values2 prior3
at3 c = simp (
  c.down-t0.ensures.is,
  c.up-t4.ensures.is,
  c.down-t0-2.ensures.is,
  c.down-t6.ensures.is,
  c.up-t2.ensures.is,
)

all3 : (c : goal.After-up-t2) → values3 c ≡ run upTo3 (args (first3 c))
unfolding first3
all3 c = at3 c ∙ ap (run (take 5 steps3)) (all2 (prior3 c)) ∙ sym (run_append upTo2 (take 5 steps3) (args (first3 c)))

sharp3 : (c : goal.After-up-t2) → Under (65537 ∷ 46340 ∷ 60548 ∷ 46340 ∷ 65536 ∷ 23170 ∷ 77305 ∷ 23170 ∷ []) (values3 c)
unfolding args first3 prior3 prior2
sharp3 c = sized upTo3 run_limit _ (args (first3 c)) _ pass_sizes.1 (all3 c) c.requires

size3 : (c : goal.After-up-t2) → (nat_abs (read32 c.sub-t1.result) ≤ 46340) × (nat_abs (read32 c.halved-h1.result) ≤ 23170)
    × (nat_abs (read32 c.sub-t5.result) ≤ 23170) × (nat_abs (read32 c.sub-t3.result) ≤ 46340) × (nat_abs (read32 c.sub-t7.result) ≤ 23170)
    × (nat_abs (read32 c.down-t6.result) ≤ 77305) × (nat_abs (read32 c.up-t2.result) ≤ 60548)
unfolding values3 prior3
size3 c = omega (arith, size2 (prior3 c), sharp3 c)

pub down-t6-requires-2 : goal.down-t6-requires-2
down-t6-requires-2 c = let s = size3 c in record { y_bound = omega (arith, s); h_bound = omega (arith, s); factor = search rules }

-- ---- the third group and the fourth

prior4 : goal.After-down-t6-2 → goal.After-up-t2
prior4 c = c.before

first4 : goal.After-down-t6-2 → goal.After-sub-t7
first4 c = first3 (prior4 c)

abbrev upTo4 : List Step
upTo4 = upTo3 ++ drop 5 steps3

values4 : goal.After-down-t6-2 → List ℤ
values4 c = read32 c.down-t0-2.result ∷ read32 c.sub-t1.result ∷ read32 c.up-t2.result ∷ read32 c.sub-t3.result
    ∷ read32 c.up-t4.result ∷ read32 c.sub-t5.result ∷ read32 c.down-t6-2.result ∷ read32 c.sub-t7.result ∷ []

at4 : (c : goal.After-down-t6-2) → values4 c ≡ run (drop 5 steps3) (values3 (prior4 c))
unfolding steps3 values4 values3 prior4
at4 c = simp c.down-t6-2.ensures.is

all4 : (c : goal.After-down-t6-2) → values4 c ≡ run upTo4 (args (first4 c))
unfolding first4
all4 c = at4 c ∙ ap (run (drop 5 steps3)) (all3 (prior4 c)) ∙ sym (run_append upTo3 (drop 5 steps3) (args (first4 c)))

size4 : (c : goal.After-down-t6-2) → (nat_abs (read32 c.sub-t1.result) ≤ 46340) × (nat_abs (read32 c.halved-h1.result) ≤ 23170)
    × (nat_abs (read32 c.sub-t5.result) ≤ 23170) × (nat_abs (read32 c.sub-t3.result) ≤ 46340) × (nat_abs (read32 c.sub-t7.result) ≤ 23170)
unfolding prior4
size4 c = omega (arith, size3 (prior4 c))

pub up-t3-requires : goal.up-t3-requires
up-t3-requires c = let s = size4 c in record { y_bound = omega (arith, s); h_bound = omega (arith, s); factor = search rules }

pub up-t5-requires : goal.up-t5-requires
up-t5-requires c = let s = size4 c.before in record { y_bound = omega (arith, s); h_bound = omega (arith, s); factor = search rules }

pub down-t3-requires : goal.down-t3-requires
down-t3-requires c = let s = size4 c.before.before in record { y_bound = omega (arith, s); h_bound = omega (arith, s); factor = search rules }

pub sub-t7-requires-2 : goal.sub-t7-requires-2
sub-t7-requires-2 c = omega (arith, size4 c.before.before.before.before)

pub sub-t5-requires-2 : goal.sub-t5-requires-2
sub-t5-requires-2 c = omega (arith, size4 c.before.before.before.before.before)

pub sub-t3-requires-2 : goal.sub-t3-requires-2
sub-t3-requires-2 c = omega (arith, size4 c.before.before.before.before.before.before)

pub sub-t1-requires-2 : goal.sub-t1-requires-2
sub-t1-requires-2 c = omega (arith, size4 c.before.before.before.before.before.before.before)

prior5 : goal.After-sub-t1-2 → goal.After-down-t6-2
prior5 c = c.before.before.before.before.before.before.before.before

first5 : goal.After-sub-t1-2 → goal.After-sub-t7
first5 c = first4 (prior5 c)

abbrev upTo5 : List Step
upTo5 = upTo4 ++ steps4

values5 : goal.After-sub-t1-2 → List ℤ
values5 c = read32 c.down-t0-2.result ∷ read32 c.sub-t1-2.result ∷ read32 c.up-t2.result ∷ read32 c.sub-t3-2.result
    ∷ read32 c.up-t4.result ∷ read32 c.sub-t5-2.result ∷ read32 c.down-t6-2.result ∷ read32 c.sub-t7-2.result ∷ []

at5 : (c : goal.After-sub-t1-2) → values5 c ≡ run steps4 (values4 (prior5 c))
unfolding steps4 values5 values4 prior5
at5 c = simp (
  c.up-t3.ensures.is,
  c.up-t5.ensures.is,
  c.down-t3.ensures.is,
  c.halved-h5.ensures.is,
  c.sub-t7-2.ensures.is,
  c.sub-t5-2.ensures.is,
  c.sub-t3-2.ensures.is,
  c.sub-t1-2.ensures.is,
  c.halved-h1.ensures.is,
)

all5 : (c : goal.After-sub-t1-2) → values5 c ≡ run upTo5 (args (first5 c))
unfolding first5
all5 c = at5 c ∙ ap (run steps4) (all4 (prior5 c)) ∙ sym (run_append upTo4 steps4 (args (first5 c)))

sharp5 : (c : goal.After-sub-t1-2) → Under (65537 ∷ 55939 ∷ 60548 ∷ 55939 ∷ 65536 ∷ 55938 ∷ 60547 ∷ 55938 ∷ []) (values5 c)
unfolding args first5 first4 first3 prior5 prior4 prior3 prior2
sharp5 c = sized upTo5 run_limit _ (args (first5 c)) _ pass_sizes.2 (all5 c) c.requires

size5 : (c : goal.After-sub-t1-2) → (nat_abs (read32 c.sub-t7-2.result) ≤ 55938) × (nat_abs (read32 c.sub-t5-2.result) ≤ 55938)
    × (nat_abs (read32 c.sub-t3-2.result) ≤ 55939) × (nat_abs (read32 c.sub-t1-2.result) ≤ 55939)
unfolding values5
size5 c = omega (arith, sharp5 c)

-- ---- the last group

pub up-t7-requires : goal.up-t7-requires
up-t7-requires c = let s = size5 c in record { y_bound = omega (arith, s); h_bound = omega (arith, s); factor = search rules }

pub down-t1-requires : goal.down-t1-requires
down-t1-requires c = let s = size5 c.before in record { y_bound = omega (arith, s); h_bound = omega (arith, s); factor = search rules }

pub up-t7-requires-2 : goal.up-t7-requires-2
up-t7-requires-2 c = let s = size5 c.before.before in record { y_bound = omega (arith, s); h_bound = omega (arith, s); factor = search rules }

pub up-t5-requires-2 : goal.up-t5-requires-2
up-t5-requires-2 c = let s = size5 c.before.before.before in record { y_bound = omega (arith, s); h_bound = omega (arith, s); factor = search rules }

pub down-t3-requires-2 : goal.down-t3-requires-2
down-t3-requires-2 c = let s = size5 c.before.before.before.before in record { y_bound = omega (arith, s); h_bound = omega (arith, s); factor = search rules }

pub up-t5-requires-3 : goal.up-t5-requires-3
up-t5-requires-3 c = let s = size5 c.before.before.before.before.before in record { y_bound = omega (arith, s); h_bound = omega (arith, s); factor = search rules }

prior6 : goal.After-up-t5-3 → goal.After-sub-t1-2
prior6 c = c.before.before.before.before.before.before

first6 : goal.After-up-t5-3 → goal.After-sub-t7
first6 c = first5 (prior6 c)

abbrev upTo6 : List Step
upTo6 = upTo5 ++ steps5

values6 : goal.After-up-t5-3 → List ℤ
values6 c = read32 c.down-t0-2.result ∷ read32 c.down-t1.result ∷ read32 c.up-t2.result ∷ read32 c.down-t3-2.result
    ∷ read32 c.up-t4.result ∷ read32 c.up-t5-3.result ∷ read32 c.down-t6-2.result ∷ read32 c.up-t7-2.result ∷ []

at6 : (c : goal.After-up-t5-3) → values6 c ≡ run steps5 (values5 (prior6 c))
unfolding steps5 values6 values5 prior6
at6 c = simp (
  c.up-t7.ensures.is,
  c.down-t1.ensures.is,
  c.up-t7-2.ensures.is,
  c.up-t5-2.ensures.is,
  c.down-t3-2.ensures.is,
  c.up-t5-3.ensures.is,
)

all6 : (c : goal.After-up-t5-3) → values6 c ≡ run upTo6 (args (first6 c))
unfolding first6
all6 c = at6 c ∙ ap (run steps5) (all5 (prior6 c)) ∙ sym (run_append upTo5 steps5 (args (first6 c)))

groups : upTo6 ≡ steps
unfolding steps steps1 steps2 steps3 steps4 steps5
groups = refl

pub returns : goal.returns
unfolding values6 args first6 first5 first4 first3 prior6 prior5 prior4 prior3 prior2
returns c = all6 c ∙ ap (λ (l : List Step). run l (args (first6 c))) groups

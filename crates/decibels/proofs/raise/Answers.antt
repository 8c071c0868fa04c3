-- `decibels::raise` meets its contract. Assumes nothing.
use Rattle.std.proofs.Common.{◌≡◌, ℕ, ◌+◌, ◌*◌, ◌^◌, sym, arith, add-one}
use native.Mathlib.Nat.{pow-suc, lt_of_le_of_lt}
use Rattle.decibels.specs.Inner.Room.{power_limit}
use Rattle.decibels.proofs.Room.{power_short, ten_small, product_room}
use Rattle.decibels.proofs.Places.{power_is}
use Rattle.decibels.proofs.raise.Goals as goal

-- ten times what is held
next_is : (E m : ℕ) {h : ℕ} → h ≡ 10 ^ m * E → h * 10 ≡ 10 ^ (m + 1) * E
next_is E m is = rw add-one (rw pow-suc (omega (arith, is)))

pub overflow_mul-held : goal.overflow_mul-held
overflow_mul-held c = omega (arith, product_room (lt_of_le_of_lt c.loop-held.invariant.2 c.requires.2) ten_small)

pub overflow_add-power : goal.overflow_add-power
unfolding power_limit
overflow_add-power c =
    let i = c.loop-held.invariant in
    let few = power_short _ _ c.loop-held.power c.requires.0 (rw (← i.0) i.2) c.requires.2 in
    omega (arith, few)

pub loop-held-smaller : goal.loop-held-smaller
loop-held-smaller c =
    let i = c.loop-held.invariant in
    let few = power_short _ _ c.loop-held.power c.requires.0 (rw (← i.0) i.2) c.requires.2 in
    omega (arith, few)

pub loop-held-preserved : goal.loop-held-preserved
loop-held-preserved c = (next_is _ _ c.loop-held.invariant.0, omega arith, omega arith)

pub returns : goal.returns
returns c =
    let i = c.loop-held.invariant in
    let past = rw (next_is _ _ i.0) at c.loop-held-test.false in
    record {
      power_value = (sym (power_is _ _ c.requires.0 _ (rw (← i.0) i.2) past), i.0);
      power_lt_power_limit = (power_short _ _ _ c.requires.0 (rw (← i.0) i.2) c.requires.2, i.1, i.2);
    }

-- `rowfed::possible::places_suit` meets its contract. Assumes nothing.
use mathlib.Core.Path.{sym, ◌∙◌}
use Prim.Native.Nat.{◌-◌}
use native.Mathlib.Nat.{le_refl}
use native.Mathlib.Omega.{arith}
use borrow.Author.Tests.{lt-leb, le-leb}
use lib.ListN.{length, drop, length-drop}
use lib.Seq.{length-take-le, take_all}
use Rattle.rowfed.specs.State.{places_suit}
use Rattle.rowfed.proofs.possible.places_suit.Goals as goal

pub returns-then-places-taps : goal.returns-then-places-taps
unfolding places_suit
returns-then-places-taps c = rw (lt-leb _ _ c.if-places-taps.true)

pub slice_bounds-is_lawful-end : goal.slice_bounds-is_lawful-end
slice_bounds-is_lawful-end c = sym (length-take-le _ _ (omega arith))

pub returns-then-is_lawful : goal.returns-then-is_lawful
unfolding places_suit
returns-then-is_lawful c = let l = c.args.places.now in
    rw (
      le-leb _ _ c.if-places-taps.false,
      sym c.is_lawful.ensures ∙ c.if-is_lawful.true,
      ← (take_all (length l - c.args.taps) (drop c.args.taps l) (simp length-drop (le_refl _))),
    )
    c.all_zero.ensures

pub returns-else-is_lawful : goal.returns-else-is_lawful
unfolding places_suit
returns-else-is_lawful c = rw (le-leb _ _ c.if-places-taps.false, ← c.is_lawful.ensures, c.if-is_lawful.false)

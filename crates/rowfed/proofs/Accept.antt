-- The verdict of each call in parts, and what holds where no test refuses. Assumes nothing.
use mathlib.Core.Path.{◌≡◌, refl, sym, ap}
use mathlib.Core.Bool.{Bool, true, false, ◌&&◌, ◌||◌, and-true}
use mathlib.Core.List.{List, [], ◌∷◌}
use Prim.Native.Nat.{ℕ, ◌+◌, ◌≤◌, ◌<◌}
use native.Mathlib.Nat.{mul_comm, mul_assoc}
use native.Mathlib.Omega.{arith}
use borrow.Author.Tests.{leb-true, eqb-true, ne_eqb}
use lib.Dec.{eqb, leb}
use lib.ListN.{length}
use lib.Seq.{length-take-le}
use Rattle.std.specs.Prelude.{Ok}
use Rattle.refusal.specs.declared.Refusal.TheVariants as no
use Rattle.refusal.specs.First.{first_broken, unless, unless_refused, lower_of}
use Rattle.refusal.proofs.Chain.{and_left, and_right, passed, together}
use Rattle.plane.specs.Limits.{side_limit}
use Rattle.plane.specs.Plane.{Size, Plane, Planes, both, every, all_to}
use Rattle.plane.specs.Tests.{depth_suits, sides_suit, stride_suits, long_enough, samples_suit, size_tests, layout_tests}
use Rattle.plane.proofs.Accept.{sides_say, long_says}
use Rattle.plane.proofs.Depth.{depth_says, depth_small}
use Rattle.plane.proofs.Several.{one_more}
use Rattle.kernel.specs.Kernel.{lawful, lent_total}
use Rattle.kernel.proofs.Says.{kernel_says, lent_total_lem}
use Rattle.window.proofs.Serves.{kernel_serves}
use Rattle.ssim.specs.Answer.{lent_tests}
use Rattle.ssim.specs.Scratch.{next_power, scratch_places}
use Rattle.ssim.proofs.Accept.{columns_few}
use Rattle.rowfed.specs.declared.State.{State}
use Rattle.rowfed.specs.State.{kernel_of, places_of, places_suit, counts_suit, possible}
use Rattle.rowfed.specs.Begin.{begin_tests, begin_refusal}
use Rattle.rowfed.specs.Feed.{rows_tests, late_tests, feed_tests, feed_refusal}
use Rattle.rowfed.specs.Finish.{finish_tests, finish_refusal}
use Rattle.rowfed.specs.Inner.Sound.{SoundState, SoundFeed}

-- ---- a possible state
module _ (wide : Bool) (s : State) (e : possible wide s ≡ true) where
  pub depth_suits_lem : depth_suits wide s.depth ≡ true
  unfolding possible
  depth_suits_lem = and_left _ _ e

  pub sides_suit_lem : sides_suit s.width s.height ≡ true
  unfolding possible
  sides_suit_lem = and_left _ _ (and_right (depth_suits wide s.depth) _ e)

  pub places_suit_lem : places_suit s.kernel s.taps ≡ true
  unfolding possible
  places_suit_lem = and_left _ _ (and_right (sides_suit s.width s.height) _ (and_right (depth_suits wide s.depth) _ e))

  pub counts_suit_lem : counts_suit s ≡ true
  unfolding possible
  counts_suit_lem =
      and_right (places_suit s.kernel s.taps) _ (and_right (sides_suit s.width s.height) _ (and_right (depth_suits wide s.depth) _ e))

  taps_few : s.taps ≤ length s.kernel
  unfolding places_suit
  taps_few = leb-true _ _ (and_left _ _ places_suit_lem)

  pub kernel_lawful : lawful lent_total (kernel_of s) ≡ true
  unfolding places_suit
  kernel_lawful = and_left _ _ (and_right (leb s.taps (length s.kernel)) _ places_suit_lem)

  rows_few : s.rows ≤ s.height
  unfolding counts_suit
  rows_few = leb-true _ _ (and_left _ _ counts_suit_lem)

  pub sound_state : SoundState s
  sound_state =
      let k = kernel_says lent_total (kernel_of s) kernel_lawful in
      let sides = sides_say s.width s.height sides_suit_lem in
      let count : length (kernel_of s) ≡ s.taps = length-take-le s.taps s.kernel taps_few in
      let columns = rw count at (columns_few s.width (kernel_of s) sides.0.0 k.odd) in
      record {
        taps_least = omega (arith, count, k.odd);
        taps_most = omega (arith, count, k.short);
        width_least = sides.0.0;
        width_most = sides.0.1;
        height_least = sides.1.0;
        height_most = sides.1.1;
        depth_most = omega (arith, (depth_says wide s.depth depth_suits_lem).1, depth_small wide);
        rows_most = rows_few;
        count = count;
        kernel = kernel_serves lent_total (kernel_of s) lent_total_lem kernel_lawful;
        total = sym k.sum;
        used_few = omega (arith, columns, count, mul_assoc 6 s.width (next_power s.taps), mul_comm s.width (next_power s.taps));
      }

-- ---- begin: the verdict of what the planes will share, then 7 and 8
pub begin_in_parts : (size : Size) (ker : List ℕ) (lent : ℕ) → begin_refusal size ker lent
    ≡ unless_refused (first_broken (size_tests size 0)) (first_broken (lent_tests size.width ker lent))
unfolding begin_tests
begin_in_parts size ker lent = together (size_tests size 0) (lent_tests size.width ker lent)

-- sides that pass are not too large
pub sides_few : (size : Size) → first_broken (size_tests size 0) ≡ Ok tt → size.width ≤ side_limit
unfolding size_tests
sides_few size z =
    let t = passed (size_tests size 0) z in
    (sides_say size.width size.height t.1.0).0.1

-- none of them refuses
pub record Begun (size : Size) (ker : List ℕ) (lent : ℕ) : Type 0 where
  pub depth : depth_suits size.wide size.depth ≡ true
  pub sides : sides_suit size.width size.height ≡ true
  pub kernel : lawful lent_total ker ≡ true
  pub lent_enough : scratch_places size.width (length ker) ≤ lent

pub begun : (size : Size) (ker : List ℕ) (lent : ℕ) → begin_refusal size ker lent ≡ Ok tt → Begun size ker lent
unfolding begin_tests size_tests lent_tests
begun size ker lent e =
    let t = passed (begin_tests size ker lent) e in
    record { depth = t.0; sides = t.1.0; kernel = t.1.1.1.0; lent_enough = leb-true _ _ t.1.1.1.1.0 }

-- ---- feed: 4 5 6 of the rows
-- no rows: the strides alone are judged
pub no_rows : (g : Planes) → g.size.height ≡ 0
    → first_broken (rows_tests g) ≡ unless (stride_suits g.size.width g.a.stride && stride_suits g.size.width g.b.stride) no.Stride (Ok tt)
unfolding rows_tests samples_suit all_to
no_rows g e = simp (e, and-true)

-- rows: the tests of two planes
pub some_rows : (g : Planes) → (g.size.height ≡ 0 → ⊥)
    → lower_of (first_broken (layout_tests g.size (g.a ∷ []))) (first_broken (layout_tests g.size (g.b ∷ []))) ≡ first_broken (rows_tests g)
unfolding rows_tests layout_tests
some_rows g h = rw (ne_eqb g.size.height 0 h) (sym (one_more g.size g.a g.b []))

-- ---- the verdict of a feed: 15 before all, then that of the rows, then 8 and 15
pub feed_in_parts : (s : State) (g : Planes) (lent : ℕ) → feed_refusal s g lent
    ≡ unless (possible g.size.wide s) no.State (unless_refused (first_broken (rows_tests g)) (first_broken (late_tests s g.size.height lent)))
unfolding feed_tests
feed_in_parts s g lent = ap (unless (possible g.size.wide s) no.State) (together (rows_tests g) (late_tests s g.size.height lent))

-- none of them refuses
pub record Taken (s : State) (g : Planes) (lent : ℕ) : Type 0 where
  pub state : possible g.size.wide s ≡ true
  pub strides : every (λ (p : Plane). stride_suits g.size.width p.stride) (both g) ≡ true
  pub long : 0 < g.size.height → every (long_enough g.size) (both g) ≡ true
  pub samples : every (samples_suit g.size) (both g) ≡ true
  pub lent_enough : places_of s ≤ lent
  pub room : s.rows + g.size.height ≤ s.height

not_none : (n : ℕ) (b : Bool) → 0 < n → (eqb n 0 || b) ≡ true → b ≡ true
not_none n b l e = rw (ne_eqb n 0 (λ z. absurd (omega arith))) at e

pub taken : (s : State) (g : Planes) (lent : ℕ) → feed_refusal s g lent ≡ Ok tt → Taken s g lent
unfolding feed_tests rows_tests late_tests
taken s g lent e =
    let t = passed (feed_tests s g lent) e in
    record {
      state = t.0;
      strides = t.1.0;
      long = λ l. not_none g.size.height _ l t.1.1.0;
      samples = t.1.1.1.0;
      lent_enough = leb-true _ _ t.1.1.1.1.0;
      room = leb-true _ _ t.1.1.1.1.1.0;
    }

pub sound_feed : (s : State) (g : Planes) (lent : ℕ) → g.size.width ≡ s.width → Taken s g lent → SoundFeed s g lent
sound_feed s g lent same t =
    record {
      state = sound_state g.size.wide s t.state;
      width = same;
      long = λ l.
          let both_long = t.long l in (
            long_says g.size g.a (and_left (long_enough g.size g.a) _ both_long),
            long_says g.size g.b (and_left (long_enough g.size g.b) _ (and_right (long_enough g.size g.a) _ both_long)),
          );
      room = t.room;
      lent_enough = t.lent_enough;
    }

-- ---- finish
pub either_says : (s : State) → (possible false s || possible true s) ≡ true → (wide : Bool) × (possible wide s ≡ true)
either_says s e = go (possible false s) refl e
  where
    go : (b : Bool) → possible false s ≡ b → (b || possible true s) ≡ true → (wide : Bool) × (possible wide s ≡ true)
    go true f h = (false, f)
    go false f h = (true, h)

pub record Finished (s : State) (lent : ℕ) : Type 0 where
  pub state : (possible false s || possible true s) ≡ true
  pub lent_enough : places_of s ≤ lent
  pub all : s.rows ≡ s.height

pub finished : (s : State) (lent : ℕ) → finish_refusal s lent ≡ Ok tt → Finished s lent
unfolding finish_tests
finished s lent e =
    let t = passed (finish_tests s lent) e in
    record { state = t.0; lent_enough = leb-true _ _ t.1.0; all = eqb-true _ _ t.1.1.0 }

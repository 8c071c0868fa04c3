-- What a begin and feeds give is possible. Assumes nothing.
use mathlib.Core.Path.{◌≡◌, refl, sym, subst}
use mathlib.Core.Bool.{Bool, true, false}
use mathlib.Core.List.{List, [], ◌∷◌}
use Prim.Native.Nat.{ℕ, zero, suc, ◌+◌, ◌-◌, ◌/◌, ◌≤◌}
use native.Mathlib.Omega.{arith}
use borrow.Author.Tests.{le-leb, eq-eqb}
use lib.Dec.{lit<}
use lib.IntN.{ℤ}
use lib.ListN.{length, replicate, length-append}
use lib.Seq.{take-append_seam, drop-append_seam}
use Rattle.std.specs.Prelude.{Ok, Err}
use Rattle.refusal.specs.First.{Verdict, by_refusal}
use Rattle.plane.specs.Limits.{least_depth}
use Rattle.plane.specs.Plane.{Size, Planes, at}
use Rattle.plane.proofs.All.{all_true}
use Rattle.plane.proofs.Accept.{sides_say}
use Rattle.plane.proofs.Depth.{depth_says, byte_depth, below_depths}
use Rattle.kernel.specs.Kernel.{most_taps, lent_total, lawful}
use Rattle.ssim.specs.declared.Totals.{Totals}
use Rattle.row_ring.specs.Taken.{scored_after}
use Rattle.row_ring.proofs.Rows.{scored_before}
use Rattle.rowfed.specs.declared.State.{State}
use Rattle.rowfed.specs.State.{held_kernel, zeros, places_suit, counts_suit, possible, no_state}
use Rattle.rowfed.specs.Begin.{begin_refusal}
use Rattle.rowfed.specs.Feed.{feed_refusal, taken_in, with_rows, state_fed}
use Rattle.rowfed.specs.Runs.{Between, fed_once, fed_all, begun_with, SameNumbers, Reached}
use Rattle.rowfed.proofs.Accept.{depth_suits_lem, sides_suit_lem, places_suit_lem, begun, taken}

-- ---- a kernel in its places
pub zeros_at : (n i : ℕ) → at (replicate n 0) i ≡ 0
zeros_at zero i = refl
zeros_at (suc n) zero = refl
zeros_at (suc n) (suc i) = zeros_at n i

pub held_suits : (ker : List ℕ) → lawful lent_total ker ≡ true → places_suit (held_kernel ker) (length ker) ≡ true
unfolding places_suit zeros
held_suits ker e =
    let pad : List ℕ = replicate (most_taps - length ker) 0 in
    rw (
      le-leb (length ker) (length (held_kernel ker)) (omega (arith, length-append ker pad)),
      take-append_seam ker pad,
      drop-append_seam ker pad,
      e,
    )
    (all_true _ (length pad) (λ i. eq-eqb _ _ (zeros_at (most_taps - length ker) i)))

-- ---- each call
pub begin_possible : (size : Size) (ker : List ℕ) (scratch : List ℤ) → begin_refusal size ker (length scratch) ≡ Ok tt
    → possible size.wide (begun_with size ker scratch).state ≡ true
unfolding possible counts_suit
begin_possible size ker scratch z =
    let t = begun size ker (length scratch) z in
    let high = (sides_say size.width size.height t.sides).1.0 in
    let none : 0 ≡ scored_after 0 size.height (length ker / 2) = omega (arith, scored_before 0 size.height (length ker / 2) high) in
    rw (t.depth, t.sides, held_suits ker t.kernel, le-leb 0 size.height (omega arith), eq-eqb _ _ none)

grown_possible : (wide : Bool) (s : State) (rows : ℕ) (t : Totals) → possible wide s ≡ true → s.rows + rows ≤ s.height
    → possible wide (with_rows s rows t) ≡ true
unfolding possible counts_suit
grown_possible wide s rows t e l = rw (depth_suits_lem wide s e, sides_suit_lem wide s e, places_suit_lem wide s e, le-leb _ _ l, eq-eqb _ _ refl)

-- a feed keeps it so, refused or not, of whatever sample width
feed_possible : (wide : Bool) (s : State) (g : Planes) (scratch : List ℤ) → possible wide s ≡ true
    → possible wide (state_fed s g scratch) ≡ true
feed_possible wide s g scratch e = go (feed_refusal s g (length scratch)) refl
  where
    go : (v : Verdict) → v ≡ feed_refusal s g (length scratch)
        → possible wide (by_refusal {A = State} v (with_rows s g.size.height (taken_in s g scratch).totals) s) ≡ true
    go (Ok tt) z = grown_possible wide s g.size.height _ e (taken s g (length scratch) (sym z)).room
    go (Err r) z = e

-- ---- one after another
pub feeds_possible : (wide : Bool) (h : Between) (feeds : List Planes) → possible wide h.state ≡ true
    → possible wide (fed_all h feeds).state ≡ true
feeds_possible wide h [] e = e
feeds_possible wide h (g ∷ more) e = feeds_possible wide (fed_once h g) more (feed_possible wide h.state g h.scratch e)

-- the running sums are not judged
same_possible : (wide : Bool) (s t : State) → SameNumbers s t → possible wide t ≡ true → possible wide s ≡ true
unfolding possible counts_suit
same_possible wide s t n e = rw (n.width, n.height, n.depth, n.taps, n.kernel, n.rows, n.scored) e

pub reached_possible : (wide : Bool) (s : State) → Reached wide s → possible wide s ≡ true
reached_possible wide s r =
    let h = begun_with r.size r.ker r.scratch in
    let first = subst (λ (w : Bool). possible w h.state ≡ true) r.of_wide (begin_possible r.size r.ker r.scratch r.begun) in
    same_possible wide s _ r.same (feeds_possible wide h r.feeds first)

-- ---- what is not
-- the state of zeros: no call takes it
pub no_state_impossible : (wide : Bool) → possible wide no_state ≡ false
unfolding possible least_depth
no_state_impossible wide = rw (sym (below_depths wide 0 (lit< tt)))

-- the depth says of which sample width a state is
pub depth_names_width : (s : State) → possible false s ≡ true → possible true s ≡ false
unfolding possible
depth_names_width s e =
    let d = depth_says false s.depth (depth_suits_lem false s e) in
    rw (sym (byte_depth true s.depth d.0 d.1))

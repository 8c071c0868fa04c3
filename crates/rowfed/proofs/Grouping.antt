-- However the rows of two planes are grouped, begin, the feeds and finish give what SSIM gives of the planes, bit for bit, and leave what it leaves.
-- Assumes nothing.
use mathlib.Core.Path.{◌≡◌, refl, sym, ap, ◌∙◌}
use mathlib.Core.Bool.{Bool, true, false, ◌||◌, or-true}
use mathlib.Core.List.{List, [], ◌∷◌, ◌++◌}
use Prim.Native.Nat.{ℕ, ◌+◌, ◌-◌, ◌*◌, ◌/◌, ◌≤◌, ◌<◌, ◌^◌}
use native.Mathlib.Nat.{lt_of_le_of_lt}
use native.Mathlib.Decide.{dec_lt}
use native.Mathlib.Omega.{arith}
use borrow.Author.Tests.{le-leb, eq-eqb}
use lib.Dec.{eqb}
use lib.Ieee.{Float}
use lib.IntN.{ℤ, pos}
use lib.ListN.{length, take, drop, replicate, length-append, length-drop, length-replicate, get_or-replicate, get_or-append}
use lib.Seq.{length-take-le, get_or-take, take-append_seam, drop_at, drop-drop, drop-append-add}
use Rattle.std.specs.Prelude.{Ok}
use Rattle.refusal.proofs.Chain.{halves, none_broken, go_on}
use Rattle.plane.specs.Plane.{Planes, both, every, sample_at}
use Rattle.plane.specs.Tests.{samples_suit, row_suits, long_enough, size_tests, layout_tests, pair_tests}
use Rattle.plane.specs.Inner.Lawful.{AcceptedPair}
use Rattle.plane.proofs.Accept.{accepted}
use Rattle.plane.proofs.All.{all_holds, none_holds}
use Rattle.plane.proofs.Depth.{max_small}
use Rattle.kernel.specs.Kernel.{most_taps}
use Rattle.window.specs.Inner.Columns.{at_z}
use Rattle.ssim.specs.declared.Totals.{Totals}
use Rattle.ssim.specs.Score.{no_totals, totals_of}
use Rattle.ssim.specs.Answer.{lent_tests, ssim_refusal, pair_of, ssim_of, scratch_after}
use Rattle.ssim.specs.Scratch.{next_power, scratch_places, cleared}
use Rattle.ssim.proofs.Powers.{power_reach}
use Rattle.row_ring.specs.declared.Ring.{Ring}
use Rattle.row_ring.specs.Ring.{pair_base, ring_places}
use Rattle.row_ring.specs.Taken.{scored_after, Kept}
use Rattle.row_ring.proofs.Rows.{scored_before}
use Rattle.row_ring.proofs.Taken.{Fed, fed_none, fed_same, fed_all_lem, group_fed, taken_length}
use Rattle.rowfed.specs.declared.State.{State}
use Rattle.rowfed.specs.State.{held_kernel, max2_of, counts_suit, possible}
use Rattle.rowfed.specs.Begin.{begin_tests, begin_refusal, begin_of}
use Rattle.rowfed.specs.Feed.{rows_tests, late_tests, feed_tests, feed_refusal, taken_in}
use Rattle.rowfed.specs.Finish.{finish_tests, finish_refusal, finish_of, scratch_finished}
use Rattle.rowfed.specs.Runs.{fed_once, fed_all, RowsOf, Groups, begun_with, TakenAll}
use Rattle.rowfed.specs.Inner.Sound.{SoundState}
use Rattle.rowfed.proofs.Accept.{Begun, begun, sound_state}
use Rattle.rowfed.proofs.Tidied.{tidy_clean}
use Rattle.rowfed.proofs.Given.{held_suits}

-- samples of every depth are words
word_max : {max : ℕ} → max < 2 ^ 12 → max < pair_base
unfolding pair_base
word_max l = omega arith

-- ---- two planes that SSIM accepts
module _ (p : Planes) (ker : List ℕ) (lent : List ℤ) (ok : ssim_refusal p ker (length lent) ≡ Ok tt) where
  abbrev height : ℕ
  height = p.size.height

  abbrev need : ℕ
  need = scratch_places p.size.width (length ker)

  planes : AcceptedPair p 0
  planes =
      accepted p.size (both p) 0
      (halves (pair_tests p 0) (lent_tests p.size.width ker (length lent)) ok).0

  begins : begin_refusal p.size ker (length lent) ≡ Ok tt
  unfolding begin_tests size_tests layout_tests
  begins =
      let h = halves (pair_tests p 0) (lent_tests p.size.width ker (length lent)) ok in
      let first = (halves (size_tests p.size 0) (layout_tests p.size (both p)) h.0).0 in
      sym (go_on (size_tests p.size 0) (lent_tests p.size.width ker (length lent)) first (sym h.1))

  start : Begun p.size ker (length lent)
  start = begun p.size ker (length lent) begins

  -- the state once r rows have come, with these sums
  abbrev after : ℕ → Totals → State
  after r t =
      record {
        width = p.size.width;
        height = height;
        depth = p.size.depth;
        taps = length ker;
        kernel = held_kernel ker;
        rows = r;
        scored = scored_after r height (length ker / 2);
        sums = t;
      }

  after_possible : (r : ℕ) (t : Totals) → r ≤ height → possible p.size.wide (after r t) ≡ true
  unfolding possible counts_suit
  after_possible r t l = rw (start.depth, start.sides, held_suits ker start.kernel, le-leb r height l, eq-eqb _ _ refl)

  after_sound : (r : ℕ) (t : Totals) → r ≤ height → SoundState (after r t)
  after_sound r t l = sound_state p.size.wide (after r t) (after_possible r t l)

  -- what it keeps for all rows: its kernel, ring, and how many places are used
  abbrev k : List ℕ
  k = take (length ker) (held_kernel ker)

  k_is : k ≡ ker
  k_is = take-append_seam ker (replicate (most_taps - length ker) 0)

  abbrev ring : Ring
  ring = record { width = p.size.width; height = height; lines = next_power (length ker) }

  abbrev used : ℕ
  used = ring_places ring + 5 * (p.size.width + 2 * (length k / 2))

  abbrev max2 : Float
  max2 = max2_of (after 0 no_totals)

  used_few : used ≤ need
  used_few = (after_sound 0 no_totals (omega arith)).used_few

  lines : 2 * (length k / 2) + 1 ≤ next_power (length ker)
  lines = omega (arith, (after_sound 0 no_totals (omega arith)).kernel.odd, ap length k_is, power_reach (length ker))

  -- the places that a feed goes on from
  abbrev tidy : List ℤ → List ℤ
  tidy s = take (ring_places ring) s ++ replicate (used - ring_places ring) (pos 0)

  tidy_length : (s : List ℤ) → used ≤ length s → length (tidy s) ≡ used
  tidy_length s l =
      omega (
        arith,
        length-append (take (ring_places ring) s) (replicate (used - ring_places ring) (pos 0)),
        length-take-le (ring_places ring) s (omega arith),
        length-replicate (used - ring_places ring) (pos 0),
      )

  tidy_ring : (s : List ℤ) → used ≤ length s → (i : ℕ) → i < ring_places ring → at_z (tidy s) i ≡ at_z s i
  tidy_ring s l i m =
      get_or-append (take (ring_places ring) s) (replicate (used - ring_places ring) (pos 0)) (pos 0) i
      (omega (arith, length-take-le (ring_places ring) s (omega arith)))
      ∙ get_or-take (ring_places ring) s i (pos 0) m

  -- ---- between the calls, once r rows have come
  record Going (r : ℕ) (t : Totals) (s : List ℤ) : Type 0 where
    few : r ≤ height
    long : length s ≡ length lent
    rest : drop need s ≡ drop need lent
    fed : Fed max2 k ring (sample_at p.a) (sample_at p.b) (record { places = tidy s; totals = t }) r

  enough : {r : ℕ} {t : Totals} {s : List ℤ} → Going r t s → need ≤ length s
  enough h = omega (arith, h.long, start.lent_enough)

  -- begun

  begun_long : length (cleared (pos 0) need lent) ≡ length lent
  begun_long =
      omega (arith, length-append (replicate need (pos 0)) (drop need lent), length-replicate need (pos 0), length-drop need lent, start.lent_enough)

  begun_zero : (j : ℕ) → at_z (tidy (cleared (pos 0) need lent)) j ≡ pos 0
  begun_zero j = go (dec_lt j (ring_places ring))
    where
      go : Dec (j < ring_places ring) → at_z (tidy (cleared (pos 0) need lent)) j ≡ pos 0
      go (yes l) =
          tidy_ring (cleared (pos 0) need lent) (omega (arith, used_few, begun_long, start.lent_enough)) j l
          ∙ get_or-append (replicate need (pos 0)) (drop need lent) (pos 0) j (omega (arith, used_few, length-replicate need (pos 0)))
          ∙ get_or-replicate need j (pos 0) (pos 0) (omega (arith, used_few))
      go (no l) =
          tidy_clean ring (cleared (pos 0) need lent) (used - ring_places ring) (omega (arith, used_few, begun_long, start.lent_enough)) j (omega arith)

  begun_going : Going 0 no_totals (cleared (pos 0) need lent)
  begun_going =
      record {
        few = omega arith;
        long = begun_long;
        rest = drop_at (replicate need (pos 0)) (drop need lent) need (length-replicate need (pos 0));
        fed = fed_none max2 k ring (sample_at p.a) (sample_at p.b) (tidy (cleared (pos 0) need lent)) begun_zero planes.sized.height_least;
      }

  begun_is : begun_with p.size ker lent ≡ record { state = after 0 no_totals; scratch = cleared (pos 0) need lent }
  begun_is =
      let none : scored_after 0 height (length ker / 2) ≡ 0 = scored_before 0 height (length ker / 2) planes.sized.height_least ∙ omega arith in
      rw (begins, none)

  -- ---- one group more
  module _ (r : ℕ) (t : Totals) (s : List ℤ) (g : Planes) (h : Going r t s) (rows : RowsOf p r g) (room : r + g.size.height ≤ height) where
    -- no sample of it is too large
    small_a : samples_suit g.size g.a ≡ true
    unfolding samples_suit row_suits
    small_a =
        all_holds _ g.size.height (λ i l.
        none_holds _ _ g.size.width (λ c m.
        rw (rows.same_a i c l m, rows.depth) (planes.each.0.bounded.small (r + i) c (omega arith) (rw rows.width at m))))

    small_b : samples_suit g.size g.b ≡ true
    unfolding samples_suit row_suits
    small_b =
        all_holds _ g.size.height (λ i l.
        none_holds _ _ g.size.width (λ c m.
        rw (rows.same_b i c l m, rows.depth) (planes.each.1.0.bounded.small (r + i) c (omega arith) (rw rows.width at m))))

    -- and no rows need no samples
    long_enough_lem : (eqb g.size.height 0 || every (long_enough g.size) (both g)) ≡ true
    long_enough_lem = go (dec_lt 0 g.size.height)
      where
        go : Dec (0 < g.size.height) → (eqb g.size.height 0 || every (long_enough g.size) (both g)) ≡ true
        go (yes l) = rw (rows.long_a l, rows.long_b l, or-true)
        go (no l) = rw (eq-eqb g.size.height 0 (omega arith))

    taken_all : feed_refusal (after r t) g (length s) ≡ Ok tt
    unfolding feed_tests rows_tests late_tests
    taken_all =
        none_broken (feed_tests (after r t) g (length s)) (
          rw rows.wide (after_possible r t h.few),
          (
            rw (rows.stride_a, rows.stride_b),
            (long_enough_lem, (rw (small_a, small_b), (le-leb _ _ (enough h), (le-leb (r + g.size.height) height room, tt)))),
          ),
        )

    abbrev new : Kept
    new = taken_in (after r t) g s

    abbrev next : List ℤ
    next = new.places ++ drop used s

    fits : used ≤ length s
    fits = omega (arith, used_few, enough h)

    new_length : length new.places ≡ used
    new_length = taken_length max2 k ring g r (record { places = tidy s; totals = t }) g.size.height ∙ tidy_length s fits

    next_long : length next ≡ length s
    next_long = omega (arith, length-append new.places (drop used s), new_length, length-drop used s, fits)

    next_rest : drop need next ≡ drop need s
    next_rest =
        let e : length new.places + (need - used) ≡ need = omega (arith, new_length, used_few) in
        let f : used + (need - used) ≡ need = omega (arith, used_few) in
        rw e at (drop-append-add new.places (drop used s) (need - used)) ∙ rw f at (drop-drop (need - used) used s)

    next_fed : Fed max2 k ring (sample_at p.a) (sample_at p.b) new (r + g.size.height)
    next_fed =
        group_fed max2 k ring (sample_at p.a) (sample_at p.b)
        (λ q c l m. lt_of_le_of_lt (planes.each.0.bounded.small q c m l) (word_max (max_small p.size.wide planes.sized.depth_most)))
        (λ q c l m. lt_of_le_of_lt (planes.each.1.0.bounded.small q c m l) (word_max (max_small p.size.wide planes.sized.depth_most)))
        lines g r (record { places = tidy s; totals = t }) (omega (arith, tidy_length s fits)) g.size.height room
        (λ i c l m. rows.same_a i c l (rw rows.width m)) (λ i c l m. rows.same_b i c l (rw rows.width m)) h.fed

    next_going : Going (r + g.size.height) new.totals next
    next_going =
        let inside : used ≤ length next = omega (arith, next_long, fits) in
        record {
          few = room;
          long = next_long ∙ h.long;
          rest = next_rest ∙ h.rest;
          fed = fed_same max2 k ring (sample_at p.a) (sample_at p.b) new (tidy next) (r + g.size.height) (omega (arith, lines))
              (λ i l. tidy_ring next inside i l ∙ get_or-append new.places (drop used s) (pos 0) i (omega (arith, new_length)))
              (tidy_clean ring next (used - ring_places ring) (omega (arith, inside))) next_fed;
        }

    next_is : fed_once (record { state = after r t; scratch = s }) g ≡ record { state = after (r + g.size.height) new.totals; scratch = next }
    next_is = rw taken_all

  -- ---- a list of groups
  groups_few : (gs : List Planes) (r : ℕ) → Groups p r gs → r ≤ height
  groups_few [] r e = omega arith
  groups_few (g ∷ more) r e = omega (arith, groups_few more (r + g.size.height) e.1)

  -- all of them are taken, and lead to the state of all rows
  groups_going : (gs : List Planes) (r : ℕ) (t : Totals) (s : List ℤ) → Going r t s → Groups p r gs
      → TakenAll p.size.wide (record { state = after r t; scratch = s }) gs
      × ((t' : Totals) × ((s' : List ℤ) × (Going height t' s' × (fed_all (record { state = after r t; scratch = s }) gs ≡ record { state = after height t'; scratch = s' }))))
  groups_going [] r t s h e = (tt, (t, (s, (rw e at h, rw e))))
  groups_going (g ∷ more) r t s h e =
      let rows = e.0 in
      let room = groups_few more (r + g.size.height) e.1 in
      let is = next_is r t s g h rows room in
      let later = groups_going more (r + g.size.height) (new r t s g h rows room).totals (next r t s g h rows room) (next_going r t s g h rows room) e.1 in (
        (rw (← rows.wide, ← rows.width, ← rows.depth), (taken_all r t s g h rows room, rw is later.0)),
        rw is later.1,
      )

  -- ---- and finish
  either : (s : State) → possible p.size.wide s ≡ true → (possible false s || possible true s) ≡ true
  either s e = go p.size.wide e
    where
      go : (wide : Bool) → possible wide s ≡ true → (possible false s || possible true s) ≡ true
      go false f = rw f
      go true f = rw (f, or-true)

  module _ (t : Totals) (s : List ℤ) (h : Going height t s) where
    finishes : finish_refusal (after height t) (length s) ≡ Ok tt
    unfolding finish_tests
    finishes =
        none_broken (finish_tests (after height t) (length s)) (
          either (after height t) (after_possible height t h.few),
          (le-leb _ _ (enough h), (eq-eqb height height refl, tt)),
        )

    same_pair : finish_of (after height t) s ≡ ssim_of p ker lent
    same_pair =
        let sums = fed_all_lem max2 k ring (sample_at p.a) (sample_at p.b) (record { places = tidy s; totals = t }) height refl h.fed
        ∙ ap (λ (q : List ℕ). totals_of max2 q p.size.width height (sample_at p.a) (sample_at p.b) height) k_is in
        rw (finishes, ok) (ap (λ (q : Totals). pair_of q) sums)

    same_scratch : scratch_finished (after height t) s ≡ scratch_after p ker lent
    same_scratch = rw (finishes, ok) (ap (λ (q : List ℤ). replicate need (pos 0) ++ q) h.rest)

  pub rows_grouped : (gs : List Planes) → Groups p 0 gs
      → (begin_of p.size ker lent ≡ Ok (begun_with p.size ker lent).state)
      × (TakenAll p.size.wide (begun_with p.size ker lent) gs
      × ((finish_of (fed_all (begun_with p.size ker lent) gs).state (fed_all (begun_with p.size ker lent) gs).scratch ≡ ssim_of p ker lent)
      × (scratch_finished (fed_all (begun_with p.size ker lent) gs).state (fed_all (begun_with p.size ker lent) gs).scratch ≡ scratch_after p ker lent)))
  rows_grouped gs e =
      let all = groups_going gs 0 no_totals (cleared (pos 0) need lent) begun_going e in
      let t = all.1.0 in
      let s = all.1.1.0 in
      let h = all.1.1.1.0 in
      (rw begins, rw begun_is (all.0, rw all.1.1.1.1 (same_pair t s h, same_scratch t s h)))

-- The used places before a feed: the ring as it stands, and zeros past it. Assumes nothing.
use mathlib.Core.Path.{◌≡◌, refl, ◌∙◌}
use mathlib.Core.List.{List, ◌++◌, append-nil}
use Prim.Native.Nat.{ℕ, ◌+◌, ◌-◌, ◌*◌, ◌/◌, ◌≤◌}
use native.Mathlib.Nat.{le_refl}
use native.Mathlib.Omega.{arith}
use borrow.Rule.Slice.PartMut.{put_mid}
use lib.Ieee.{Float}
use lib.IntN.{ℤ, pos}
use lib.ListN.{length, take, drop, replicate, length-drop, drop_of_length-le}
use lib.Seq.{length-take-le, take_all, take-take, get_or-append-add}
use Rattle.number.specs.Steps.{double}
use Rattle.plane.specs.Plane.{Planes, max_of}
use Rattle.plane.specs.Sums.{sum_to}
use Rattle.kernel.specs.Kernel.{tap, lent_total}
use Rattle.window.specs.Inner.Parts.{Kernel}
use Rattle.window.proofs.Sums.Held.{zero_at}
use Rattle.ssim.specs.Scratch.{next_power}
use Rattle.ssim.proofs.Powers.{power_reach}
use Rattle.row_ring.specs.declared.Ring.{Ring}
use Rattle.row_ring.specs.Taken.{Kept, taken_of}
use Rattle.row_ring.specs.Ring.{ring_places}
use Rattle.row_ring.specs.Inner.Places.{Clean, Roomy}
use Rattle.rowfed.specs.declared.State.{State}
use Rattle.rowfed.specs.State.{ring_of}
use Rattle.rowfed.specs.Feed.{used_places, taken_in}
use Rattle.rowfed.specs.Inner.Sound.{SoundState}

-- the places past the ring have come back all zero
pub tidy : (past : ℕ) (s ys : List ℤ) → past ≤ length s → ys ≡ replicate (length (take (length s - past) (drop past s))) (pos 0)
    → put_mid past (length s - past) s ys ≡ take past s ++ replicate (length s - past) (pos 0)
tidy past s ys l e =
    let few : length (drop past s) ≤ length s - past = rw (length-drop past s) (le_refl _) in
    rw (e, take_all (length s - past) (drop past s) few, length-drop past s, drop_of_length-le (drop past s) {i = length s - past} few, append-nil)

pub tidy_clean : (ring : Ring) (s : List ℤ) (n : ℕ) → ring_places ring ≤ length s → Clean ring (take (ring_places ring) s ++ replicate n (pos 0))
tidy_clean ring s n l j m =
    let front = length-take-le (ring_places ring) s l in
    let e : ring_places ring + (j - ring_places ring) ≡ j = omega arith in
    rw (front, e) at (get_or-append-add (take (ring_places ring) s) (replicate n (pos 0)) (j - ring_places ring) (pos 0))
    ∙ zero_at (replicate n (pos 0)) n refl (j - ring_places ring)

-- ---- a feed under a state, as the code counts: its ring has `lines` lines, and its kernel stands in `places`
module _ (s : State) (lines : ℕ) (places : List ℕ) (e : lines ≡ next_power s.taps) (f : places ≡ s.kernel) (sound : SoundState s) where
  pub used_count : lines * s.width + 5 * (s.width + 2 * (s.taps / 2)) ≡ used_places s
  used_count = rw (e, sound.count)

  taps_there : length (take s.taps places) ≡ s.taps
  taps_there = rw f sound.count

  abbrev ring : Ring
  ring = record { width = s.width; height = s.height; lines = lines }

  pub roomy : (n : ℕ) → used_places s ≤ n → Roomy ring (take s.taps places) n
  roomy n l = (omega (arith, e, taps_there, power_reach s.taps), rw (e, f) l)

  pub kernel_there : Kernel (take s.taps places) × (lent_total ≡ sum_to (tap (take s.taps places)) (length (take s.taps places)))
  kernel_there = rw f (sound.kernel, sound.total)

  -- of the first places that are lent, as many as are used
  pub taken_under : (g : Planes) (scratch : List ℤ) (used max : ℕ) (max2 : Float) (k : Kept) → used ≡ used_places s → used ≤ length scratch → max ≡ max_of s.depth
      → max2 ≡ double (max * max)
      → k ≡ taken_of max2 (take s.taps places) ring g s.rows
      (record {
        places = take (ring_places ring) (take used scratch) ++ replicate (length (take used scratch) - ring_places ring) (pos 0);
        totals = s.sums;
      }) g.size.height
      → k ≡ taken_in s g scratch
  taken_under g scratch used max max2 k u l m q h =
      h ∙ rw (q, m, f, e, take-take (ring_places (ring_of s)) used scratch (omega arith), length-take-le used scratch l, u)

-- What a lawful kernel is like, as facts, and what its limits leave room for. Assumes nothing.
use mathlib.Core.Path.{◌≡◌, refl}
use mathlib.Core.Bool.{Bool, true, false, ◌||◌, or-true}
use mathlib.Core.List.{List}
use Prim.Native.Nat.{ℕ, ◌+◌, ◌-◌, ◌*◌, ◌/◌, ◌%◌, ◌≤◌, ◌<◌, ◌^◌}
use native.Mathlib.Omega.{arith}
use borrow.Author.Tests.{leb-true, le-leb, eqb-true, eq-eqb}
use lib.Dec.{eqb, leb, lit≤}
use lib.ListN.{length}
use Rattle.refusal.proofs.Chain.{and_left, and_right}
use Rattle.plane.specs.Sums.{sum_to}
use Rattle.plane.proofs.All.{all_at, all_holds}
use Rattle.kernel.proofs.Computed.{computed}
use Rattle.kernel.specs.Kernel.{tap, most_taps, lent_total, fixed_total, fixed_kernel, odd_count, taps_suit, sums_to, mirrored, middled, ended, lawful}

-- each part of the test, where it passes
pub odd_says : (ker : List ℕ) → odd_count ker ≡ true → (length ker ≡ 2 * (length ker / 2) + 1) × (length ker ≤ most_taps)
unfolding odd_count
odd_says ker e =
    let odd : length ker % 2 ≡ 1 = eqb-true (length ker % 2) 1 (and_left (eqb (length ker % 2) 1) _ e) in
    (omega arith, leb-true _ _ (and_right (eqb (length ker % 2) 1) _ e))

pub taps_say : (total : ℕ) (ker : List ℕ) → taps_suit total ker ≡ true → (k : ℕ) → k < length ker → tap ker k ≤ total
unfolding taps_suit
taps_say total ker e k l = leb-true _ _ (all_at _ (length ker) e k l)

pub sums_say : (total : ℕ) (ker : List ℕ) → sums_to total ker ≡ true → sum_to (tap ker) (length ker) ≡ total
unfolding sums_to
sums_say total ker e = eqb-true _ _ e

pub mirror_says : (ker : List ℕ) → mirrored ker ≡ true → (k : ℕ) → k < length ker → tap ker k ≡ tap ker (length ker - 1 - k)
unfolding mirrored
mirror_says ker e k l = eqb-true _ _ (all_at _ (length ker) e k l)

pub middle_says : (ker : List ℕ) → middled ker ≡ true → 1 ≤ tap ker (length ker / 2)
unfolding middled
middle_says ker e = leb-true _ _ e

-- of one tap the end is the middle
end_says : (ker : List ℕ) → length ker ≡ 2 * (length ker / 2) + 1 → 1 ≤ tap ker (length ker / 2) → ended ker ≡ true → 1 ≤ tap ker 0
unfolding ended
end_says ker odd middle e = go (leb (length ker) 1) refl e
  where
    go : (few : Bool) → leb (length ker) 1 ≡ few → (few || leb 1 (tap ker 0)) ≡ true → 1 ≤ tap ker 0
    go true l e = let half : length ker / 2 ≡ 0 = omega (arith, odd, leb-true (length ker) 1 l) in rw half at middle
    go false l e = leb-true _ _ e

-- all of it
pub record Says (total : ℕ) (ker : List ℕ) : Type 0 where
  pub odd : length ker ≡ 2 * (length ker / 2) + 1
  pub short : length ker ≤ most_taps
  pub range : (k : ℕ) → k < length ker → tap ker k ≤ total
  pub sum : sum_to (tap ker) (length ker) ≡ total
  pub mirror : (k : ℕ) → k < length ker → tap ker k ≡ tap ker (length ker - 1 - k)
  pub middle : 1 ≤ tap ker (length ker / 2)
  pub ends : 1 ≤ tap ker 0

pub kernel_says : (total : ℕ) (ker : List ℕ) → lawful total ker ≡ true → Says total ker
unfolding lawful
kernel_says total ker e =
    let e1 = and_right (odd_count ker) _ e in
    let e2 = and_right (taps_suit total ker) _ e1 in
    let e3 = and_right (sums_to total ker) _ e2 in
    let e4 = and_right (mirrored ker) _ e3 in
    let count = odd_says ker (and_left (odd_count ker) _ e) in
    let middle = middle_says ker (and_left (middled ker) _ e4) in
    record {
      odd = count.0;
      short = count.1;
      range = taps_say total ker (and_left (taps_suit total ker) _ e1);
      sum = sums_say total ker (and_left (sums_to total ker) _ e2);
      mirror = mirror_says ker (and_left (mirrored ker) _ e3);
      middle = middle;
      ends = end_says ker count.0 middle (and_right (middled ker) _ e4);
    }

-- and nothing else is needed
pub says_lawful : (total : ℕ) (ker : List ℕ) → Says total ker → lawful total ker ≡ true
unfolding lawful odd_count taps_suit sums_to mirrored middled ended
says_lawful total ker s =
    rw (
      eq-eqb (length ker % 2) 1 (omega (arith, s.odd)),
      le-leb (length ker) most_taps s.short,
      all_holds (λ (k : ℕ). leb (tap ker k) total) (length ker) (λ k l. le-leb _ _ (s.range k l)),
      eq-eqb (sum_to (tap ker) (length ker)) total s.sum,
      all_holds (λ (k : ℕ). eqb (tap ker k) (tap ker (length ker - 1 - k))) (length ker) (λ k l. eq-eqb _ _ (s.mirror k l)),
      le-leb 1 (tap ker (length ker / 2)) s.middle,
      le-leb 1 (tap ker 0) s.ends,
      or-true,
    )

pub lent_total_lem : lent_total ≤ fixed_total
unfolding lent_total fixed_total
lent_total_lem = lit≤ tt

-- MS-SSIM's own kernel is lawful at its own total
pub fixed_lawful : lawful fixed_total fixed_kernel ≡ true
unfolding computed
fixed_lawful = refl

-- the limits, as sizes of words
pub taps_room : most_taps ≤ 2 ^ 32
unfolding most_taps
taps_room = lit≤ tt

pub total_room : fixed_total ≤ 2 ^ 16
unfolding fixed_total
total_room = lit≤ tt

-- The chart's rule, over all of its places: each has its entry (`chart_right`, computed part by part), so that what the code reads is what is
-- defined (`charted`); and as a power no entry misses by more than a millionth (`entry_near`). Assumes nothing.
use mathlib.Core.Path.{◌≡◌, refl}
use mathlib.Core.Bool.{Bool, true, ◌&&◌}
use mathlib.Core.List.{◌++◌}
use Prim.Native.Nat.{ℕ, ◌+◌, ◌*◌, ◌^◌, ◌≤◌, ◌<◌}
use borrow.Author.Tests.{leb-true, ltb-true}
use lib.Dec.{leb, ltb}
use lib.ListN.{length, get_or}
use Rattle.refusal.proofs.Chain.{and_left, and_right}
use Rattle.decibels.specs.Hundredths.{place_count, chart_unit, entry_power, entry_of}
use Rattle.decibels.specs.Inner.Chart.{part0, part1, part2, part3, part4, part5, part6, part7, part8, part9, chart}
use Rattle.decibels.proofs.Entries.{entry_is}
use Rattle.decibels.proofs.Table.{every, joined, at_place}

-- ---- the rule as a test, at place k with x in it
unfoldable right : ℕ → ℕ → Bool
unfolding place_count chart_unit entry_power
right k x =
    leb (x ^ place_count) (entry_power k) && ltb (entry_power k) ((x + 1) ^ place_count) && leb (999999 * entry_power k) (1000000 * x ^ place_count)

right0 : every right 0 part0 ≡ true
unfolding right part0
right0 = refl

right1 : every right 100 part1 ≡ true
unfolding right part1
right1 = refl

right2 : every right 200 part2 ≡ true
unfolding right part2
right2 = refl

right3 : every right 300 part3 ≡ true
unfolding right part3
right3 = refl

right4 : every right 400 part4 ≡ true
unfolding right part4
right4 = refl

right5 : every right 500 part5 ≡ true
unfolding right part5
right5 = refl

right6 : every right 600 part6 ≡ true
unfolding right part6
right6 = refl

right7 : every right 700 part7 ≡ true
unfolding right part7
right7 = refl

right8 : every right 800 part8 ≡ true
unfolding right part8
right8 = refl

right9 : every right 900 part9 ≡ true
unfolding right part9
right9 = refl

all8 : every right 800 (part8 ++ part9) ≡ true
unfolding part8
all8 = joined right part8 part9 800 right8 right9

all7 : every right 700 (part7 ++ (part8 ++ part9)) ≡ true
unfolding part7
all7 = joined right part7 (part8 ++ part9) 700 right7 all8

all6 : every right 600 (part6 ++ (part7 ++ (part8 ++ part9))) ≡ true
unfolding part6
all6 = joined right part6 (part7 ++ (part8 ++ part9)) 600 right6 all7

all5 : every right 500 (part5 ++ (part6 ++ (part7 ++ (part8 ++ part9)))) ≡ true
unfolding part5
all5 = joined right part5 (part6 ++ (part7 ++ (part8 ++ part9))) 500 right5 all6

all4 : every right 400 (part4 ++ (part5 ++ (part6 ++ (part7 ++ (part8 ++ part9))))) ≡ true
unfolding part4
all4 = joined right part4 (part5 ++ (part6 ++ (part7 ++ (part8 ++ part9)))) 400 right4 all5

all3 : every right 300 (part3 ++ (part4 ++ (part5 ++ (part6 ++ (part7 ++ (part8 ++ part9)))))) ≡ true
unfolding part3
all3 = joined right part3 (part4 ++ (part5 ++ (part6 ++ (part7 ++ (part8 ++ part9))))) 300 right3 all4

all2 : every right 200 (part2 ++ (part3 ++ (part4 ++ (part5 ++ (part6 ++ (part7 ++ (part8 ++ part9))))))) ≡ true
unfolding part2
all2 = joined right part2 (part3 ++ (part4 ++ (part5 ++ (part6 ++ (part7 ++ (part8 ++ part9)))))) 200 right2 all3

all1 : every right 100 (part1 ++ (part2 ++ (part3 ++ (part4 ++ (part5 ++ (part6 ++ (part7 ++ (part8 ++ part9)))))))) ≡ true
unfolding part1
all1 = joined right part1 (part2 ++ (part3 ++ (part4 ++ (part5 ++ (part6 ++ (part7 ++ (part8 ++ part9))))))) 100 right1 all2

all0 : every right 0 (part0 ++ (part1 ++ (part2 ++ (part3 ++ (part4 ++ (part5 ++ (part6 ++ (part7 ++ (part8 ++ part9))))))))) ≡ true
unfolding part0
all0 = joined right part0 (part1 ++ (part2 ++ (part3 ++ (part4 ++ (part5 ++ (part6 ++ (part7 ++ (part8 ++ part9)))))))) 0 right0 all1

every_right : every right 0 chart ≡ true
unfolding chart
every_right = all0

-- ---- what it says
pub record Right (k e : ℕ) : Type 0 where
  pub most : e ^ place_count ≤ entry_power k
  pub next : entry_power k < (e + 1) ^ place_count
  pub near : 999999 * entry_power k ≤ 1000000 * e ^ place_count

pub all_places : length chart ≡ place_count
unfolding chart part0 part1 part2 part3 part4 part5 part6 part7 part8 part9 place_count
all_places = refl

pub chart_right : (k : ℕ) → k < place_count → Right k (get_or chart k 0)
unfolding right
chart_right k l =
    let x = get_or chart k 0 in
    let t = at_place right chart every_right k (rw all_places l) in
    let a = leb (x ^ place_count) (entry_power k) in
    let b = ltb (entry_power k) ((x + 1) ^ place_count) in
    record {
      most = leb-true _ _ (and_left a b (and_left (a && b) _ t));
      next = ltb-true _ _ (and_right a b (and_left (a && b) _ t));
      near = leb-true _ _ (and_right (a && b) _ t);
    }

pub charted : (k : ℕ) → k < place_count → entry_of k ≡ get_or chart k 0
charted k l = let r = chart_right k l in entry_is k _ r.most r.next

pub entry_near : (k : ℕ) → k < place_count → 999999 * entry_power k ≤ 1000000 * entry_of k ^ place_count
entry_near k l = rw (charted k l) (chart_right k l).near

-- Five sums at once: the laws of one window, at each of the five. Assumes nothing.
use mathlib.Core.Path.{◌≡◌, refl}
use mathlib.Core.List.{List}
use Prim.Native.Nat.{ℕ, zero, suc, ◌+◌, ◌-◌, ◌*◌, ◌/◌, ◌≤◌, ◌<◌, ◌^◌}
use native.Mathlib.Nat.{mul-le-mul, lt_of_le_of_lt, le_trans, le_refl}
use native.Mathlib.Omega.{arith}
use lib.Dec.{lit<, lit≤}
use lib.ListN.{length}
use Rattle.kernel.specs.Kernel.{tap, fixed_total}
use Rattle.window.specs.Inner.Parts.{part_of, Kernel, quant_of, five_sums_of, nth, tapped_of, Room, parts_of}
use Rattle.window.specs.Inner.Columns.{Fits}
use Rattle.window.specs.Moments.{most_sample}
use Rattle.window.specs.declared.FiveSums.{FiveSums}
use Rattle.window.proofs.Sums.Windows.{part_more, part_first, part_last, part_room, part_le}

-- g and h agree
pub five_ext : (g h : ℕ → ℕ) → ((m : ℕ) → g m ≡ h m) → five_sums_of g ≡ five_sums_of h
five_ext g h e = simp (e 0, e 1, e 2, e 3, e 4)

-- number m of five is what stands there
pub nth_of : (P : ℕ → ℕ → Type 0) (g : ℕ → ℕ) → ((m : ℕ) → m < 5 → P m (g m)) → (m : ℕ) → m < 5 → P m (nth (five_sums_of g) m)
nth_of P g h zero l = h 0 l
nth_of P g h (suc zero) l = h 1 l
nth_of P g h (suc (suc zero)) l = h 2 l
nth_of P g h (suc (suc (suc zero))) l = h 3 l
nth_of P g h (suc (suc (suc (suc zero)))) l = h 4 l
nth_of P g h (suc (suc (suc (suc (suc m))))) l = let z : ⊥ = omega arith in absurd z

pub nth_five : (g : ℕ → ℕ) (m : ℕ) → m < 5 → nth (five_sums_of g) m ≡ g m
nth_five g = nth_of (λ (i v : ℕ). v ≡ g i) g (λ i l. refl)

-- what holds at each of the five holds of any number of them
nth_all : (P : ℕ → Type 0) (g : ℕ → ℕ) → ((m : ℕ) → P (g m)) → (m : ℕ) → P (nth (five_sums_of g) m)
nth_all P g h zero = h 0
nth_all P g h (suc zero) = h 1
nth_all P g h (suc (suc zero)) = h 2
nth_all P g h (suc (suc (suc zero))) = h 3
nth_all P g h (suc (suc (suc (suc m)))) = h 4

-- the quantities of two samples, bounded
pub quant_le : (m a b : ℕ) → a ≤ most_sample → b ≤ most_sample → quant_of m a b ≤ 2 ^ 40
unfolding most_sample
quant_le zero a b h k = omega arith
quant_le (suc zero) a b h k = omega arith
quant_le (suc (suc zero)) a b h k = mul-le-mul h h
quant_le (suc (suc (suc zero))) a b h k = mul-le-mul h k
quant_le (suc (suc (suc (suc m)))) a b h k = mul-le-mul k k

pub quant_small : (m a b : ℕ) → a ≤ most_sample → b ≤ most_sample → quant_of m a b ≤ 2 ^ 50
quant_small m a b h k = le_trans (quant_le m a b h k) (lit≤ tt)

-- column sums are at most 2 ^ 50, and sums of those at most 2 ^ 60
pub column_room : (2 ^ 40) * fixed_total ≤ 2 ^ 50
unfolding fixed_total
column_room = lit≤ tt

pub row_room : (2 ^ 50) * fixed_total < 2 ^ 63
unfolding fixed_total
row_room = lit< tt

-- five windows over f, whose values are at most 2 ^ 50 where they count
module _ (ker : List ℕ) (side : ℕ) (f : ℕ → ℕ → ℕ) (x : ℕ) where
  pub parts_more : (k : ℕ) → length ker / 2 ≤ x + k → x + k < length ker / 2 + side
      → parts_of ker side f x (k + 1) ≡ tapped_of (parts_of ker side f x k) (tap ker k) (λ (m : ℕ). f m (x + k - length ker / 2))
  unfolding parts_of
  parts_more k l n =
      five_ext _ (λ (m : ℕ). part_of ker side (f m) x k + tap ker k * f m (x + k - length ker / 2)) (λ m. part_more ker side (f m) x k l n)

  pub parts_first : (k : ℕ) → k ≤ length ker / 2 - x → parts_of ker side f x k ≡ five_sums_of (λ (m : ℕ). 0)
  unfolding parts_of
  parts_first k l = five_ext _ _ (λ m. part_first ker side (f m) x k l)

  pub parts_last : Kernel ker → (k : ℕ) → length ker - (x + length ker / 2 + 1 - side) ≤ k → k ≤ length ker
      → parts_of ker side f x k ≡ parts_of ker side f x (length ker)
  unfolding parts_of
  parts_last r k l m = five_ext _ _ (λ i. part_last ker side (f i) x r k l m)

  pub parts_room : (t : FiveSums) (k : ℕ) → t ≡ parts_of ker side f x k → Kernel ker
      → ((m : ℕ) → m < 5 → (k : ℕ) → k < length ker → length ker / 2 ≤ x + k → x + k < length ker / 2 + side
      → f m (x + k - length ker / 2) ≤ 2 ^ 50)
      → k < length ker → length ker / 2 ≤ x + k → x + k < length ker / 2 + side
      → Room t (tap ker k) (λ (m : ℕ). f m (x + k - length ker / 2))
  unfolding parts_of
  parts_room t k e r h l m n =
      rw e (nth_of (λ (i v : ℕ). v + tap ker k * f i (x + k - length ker / 2) < 2 ^ 64) _
      (λ i q. low (part_room ker side (f i) x (2 ^ 50) _ k r (h i q) refl l m n)))
    where
      low : {v : ℕ} → v ≤ (2 ^ 50) * fixed_total → v < 2 ^ 64
      low q = omega (arith, row_room)

  -- and all of the taps of values of at most 2 ^ 40 come to what scratch can hold
  pub parts_low : (t : FiveSums) → t ≡ parts_of ker side f x (length ker) → Kernel ker
      → ((m k : ℕ) → k < length ker → length ker / 2 ≤ x + k → x + k < length ker / 2 + side → f m (x + k - length ker / 2) ≤ 2 ^ 40)
      → Fits t
  unfolding parts_of
  parts_low t e r h =
      rw e (nth_all (λ (v : ℕ). v < 2 ^ 63) _
      (λ m. lt_of_le_of_lt (le_trans (part_le ker side (f m) x (2 ^ 40) r (h m) _ (le_refl _)) column_room) (lit< tt)))

-- The sums one side at a time, as an engine makes them: a window over any numbers along one side, and five such windows at once.
-- `proofs/Separable.antt` shows that a window along a row of windows down the columns is the sum of Moments. Definitions only.
use Rattle.std.specs.Prelude.{List, ◌≡◌, ℕ, zero, suc, ◌+◌, ◌-◌, ◌*◌, ◌/◌, ◌≤◌, ◌<◌, ◌^◌, length}
use Rattle.plane.specs.Sums.{sum_to}
use Rattle.kernel.specs.Kernel.{tap, most_taps, fixed_total}
use Rattle.window.specs.Moments.{clipped}
use Rattle.window.specs.declared.FiveSums.{FiveSums}

-- ---- one window

-- the first n taps over f along a side, the middle at x
unfoldable pub part_of : List ℕ → ℕ → (ℕ → ℕ) → ℕ → ℕ → ℕ
part_of ker side f x n = sum_to (λ (k : ℕ). tap ker k * clipped (length ker / 2) side f (x + k)) n

-- all of them
abbrev pub window_of : List ℕ → ℕ → (ℕ → ℕ) → ℕ → ℕ
window_of ker side f x = part_of ker side f x (length ker)

-- the taps that lie inside
abbrev pub weight_of : List ℕ → ℕ → ℕ → ℕ
weight_of ker side x = window_of ker side (λ (i : ℕ). 1) x

-- all taps over g from x on: a window over numbers that have their margins of zeros with them
unfoldable pub across_of : List ℕ → (ℕ → ℕ) → ℕ → ℕ
across_of ker g x = sum_to (λ (k : ℕ). tap ker k * g (x + k)) (length ker)

-- the same from the middle and the ends at once: the middle tap and the n outermost pairs
unfoldable pub folded_of : List ℕ → (ℕ → ℕ) → ℕ → ℕ → ℕ
folded_of ker g x n =
    let off = length ker / 2 in
    tap ker off * g (x + off) + sum_to (λ (k : ℕ). tap ker k * (g (x + k) + g (x + 2 * off - k))) n

-- What the sums need of a kernel. Any lawful kernel has it, lent or fixed (`kernel_serves`).
pub record Kernel (ker : List ℕ) : Type 0 where
  pub odd : length ker ≡ 2 * (length ker / 2) + 1
  pub short : length ker ≤ most_taps
  pub light : sum_to (tap ker) (length ker) ≤ fixed_total
  pub mirror : (k : ℕ) → k < length ker → tap ker k ≡ tap ker (length ker - 1 - k)

-- ---- five at once

-- the five quantities of a pair of samples: a, b, a², ab, b²
abbrev pub quant_of : ℕ → ℕ → ℕ → ℕ
quant_of zero a b = a
quant_of (suc zero) a b = b
quant_of (suc (suc zero)) a b = a * a
quant_of (suc (suc (suc zero))) a b = a * b
quant_of (suc (suc (suc (suc m)))) a b = b * b

-- the five numbers that g gives at 0 to 4
abbrev pub five_sums_of : (ℕ → ℕ) → FiveSums
five_sums_of g = record { mux = g 0; muy = g 1; x2 = g 2; xy = g 3; y2 = g 4 }

-- number m of five
abbrev pub nth : FiveSums → ℕ → ℕ
nth t zero = t.mux
nth t (suc zero) = t.muy
nth t (suc (suc zero)) = t.x2
nth t (suc (suc (suc zero))) = t.xy
nth t (suc (suc (suc (suc m)))) = t.y2

-- one tap more of each
abbrev pub tapped_of : FiveSums → ℕ → (ℕ → ℕ) → FiveSums
tapped_of t k g = five_sums_of (λ (m : ℕ). nth t m + k * g m)

-- and there is room for it
abbrev pub Room : FiveSums → ℕ → (ℕ → ℕ) → Type 0
Room t k g = (m : ℕ) → m < 5 → nth t m + k * g m < 2 ^ 64

-- the first n taps over five functions
unfoldable pub parts_of : List ℕ → ℕ → (ℕ → ℕ → ℕ) → ℕ → ℕ → FiveSums
parts_of ker side f x n = five_sums_of (λ (m : ℕ). part_of ker side (f m) x n)

-- five folded sums
unfoldable pub folds_of : List ℕ → (ℕ → ℕ → ℕ) → ℕ → ℕ → FiveSums
folds_of ker g x n = five_sums_of (λ (m : ℕ). folded_of ker (g m) x n)

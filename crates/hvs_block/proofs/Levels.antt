-- The variances of a block of samples by whole numbers. Assumes nothing.
use mathlib.Core.Path.{◌≡◌, refl, sym, ap, ◌∙◌}
use mathlib.Core.Bool.{false}
use mathlib.Core.List.{List}
use Prim.Native.Nat.{ℕ, ◌+◌, ◌-◌, ◌*◌, ◌/◌, ◌%◌, ◌≤◌, ◌^◌}
use native.Mathlib.Nat.{mul-le-mul}
use native.Mathlib.Omega.{arith}
use lib.Dec.{T, lit<, lit≤}
use lib.IntN.{ℤ, pos, negsuc, nat_abs}
use lib.ListN.{get_or}
use lib.Signed.{non_neg}
use lib.Ieee.{Float, fin, of_bits}
use Rattle.number.specs.Steps.{◌⊕◌, ◌⊗◌, ◌⊘◌, double}
use Rattle.plane.specs.Sums.{sum_to}
use Rattle.plane.proofs.Sums.{sum_bound}
use Rattle.number.specs.Literals.{zero_d}
use Rattle.hvs_block.specs.Literals.{fifteen, sixteen, sixty_three, sixty_four}
use Rattle.hvs_block.specs.Block.{signed, cell, squared_deviation, gmean, gvar, mean, var}
use Rattle.hvs_block.specs.Inner.Levels.{Samples, level_of, level_in, squares}
use Rattle.hvs_block.proofs.Folds.{by_eights, by_fours}
use Rattle.hvs_block.proofs.WholeVariance.{summed, squared_from, square_le, variance_is}
use Rattle.hvs_block.proofs.Numbers.{sample_small, sample_at_lem}
use Rattle.hvs_block.proofs.Quarters.{quarters}

-- a number that is not below 0, as a double
unsigned : (z : ℤ) → T (non_neg z) → signed z ≡ double (nat_abs z)
unsigned (pos n) t = refl
unsigned (negsuc n) t = absurd t

-- ---- the definition's steps over samples g, which are read as the doubles v
steps_are : (e : ℕ) → e ≤ 6 → (v : ℕ → Float) (g : ℕ → ℕ) → ((k : ℕ) → v k ≡ double (g k)) → ((k : ℕ) → g k ≤ 2 ^ 12)
    → summed (λ (k : ℕ). squared_from (summed v (2 ^ e) ⊘ fin false 1 (pos e)) (v k)) (2 ^ e)
    ≡ double (2 ^ e * squares g (2 ^ e) - sum_to g (2 ^ e) * sum_to g (2 ^ e)) ⊘ fin false 1 (pos e)
steps_are e l v g same small =
    let all : v ≡ (λ (k : ℕ). double (g k)) = λ i k. same k i in
    ap (λ (w : ℕ → Float). summed (λ (k : ℕ). squared_from (summed w (2 ^ e) ⊘ fin false 1 (pos e)) (w k)) (2 ^ e)) all ∙ variance_is e l g small

module _ (b : List ℤ) (h : Samples b) where
  small_at : (k : ℕ) → nat_abs (get_or b k (pos 0)) ≤ 2 ^ 12
  small_at k = sample_small (sample_at_lem b h k)

  -- ---- the whole block
  gmean_is : gmean b ≡ summed (λ (k : ℕ). signed (cell b (0 + k / 8) (0 + k % 8))) 64 ⊘ sixty_four
  unfolding gmean
  gmean_is = ap (λ (s : Float). s ⊘ sixty_four) (sym (by_eights (λ (s : Float) (i j : ℕ). s ⊕ signed (cell b (0 + i) (0 + j))) zero_d))

  gvar_is : gvar b ≡ double (64 * squares (level_of b) 64 - sum_to (level_of b) 64 * sum_to (level_of b) 64) ⊘ sixty_four ⊗ (sixty_four ⊘ sixty_three)
  unfolding gvar of_bits
  gvar_is =
      let v : ℕ → Float = λ (k : ℕ). signed (cell b (0 + k / 8) (0 + k % 8)) in
      ap (λ (s : Float). s ⊗ (sixty_four ⊘ sixty_three))
      (sym (by_eights (λ (s : Float) (i j : ℕ). s ⊕ squared_deviation b (gmean b) (0 + i) (0 + j)) zero_d)
      ∙ ap (λ (m : Float). summed (λ (k : ℕ). squared_from m (v k)) 64) gmean_is
      ∙ steps_are 6 (lit≤ tt) v (level_of b) (λ (k : ℕ). unsigned _ (sample_at_lem b h _).above) (λ (k : ℕ). small_at _))

  pub whole_le : sum_to (level_of b) 64 * sum_to (level_of b) 64 ≤ 64 * squares (level_of b) 64
  whole_le = square_le 64 (level_of b) (lit< tt)

  pub whole_sum : sum_to (level_of b) 64 ≤ 2 ^ 18
  whole_sum = omega (arith, sum_bound (level_of b) (2 ^ 12) 64 (λ (k : ℕ) i. small_at _))

  pub whole_squares : squares (level_of b) 64 ≤ 2 ^ 30
  whole_squares =
      omega (arith, sum_bound (λ (k : ℕ). level_of b k * level_of b k) (2 ^ 24) 64 (λ (k : ℕ) i. mul-le-mul (small_at _) (small_at _)))

  -- ---- a quarter
  module _ (top left : ℕ) where
    mean_is : mean b top left ≡ summed (λ (k : ℕ). signed (cell b (top + k / 4) (left + k % 4))) 16 ⊘ sixteen
    unfolding mean
    mean_is = ap (λ (s : Float). s ⊘ sixteen) (sym (by_fours (λ (s : Float) (i j : ℕ). s ⊕ signed (cell b (top + i) (left + j))) zero_d))

    pub var_is : var b top left
        ≡ double (16 * squares (level_in b top left) 16 - sum_to (level_in b top left) 16 * sum_to (level_in b top left) 16) ⊘ sixteen ⊗ (sixteen ⊘ fifteen)
    unfolding var of_bits
    var_is =
        let v : ℕ → Float = λ (k : ℕ). signed (cell b (top + k / 4) (left + k % 4)) in
        ap (λ (s : Float). s ⊗ (sixteen ⊘ fifteen))
        (sym (by_fours (λ (s : Float) (i j : ℕ). s ⊕ squared_deviation b (mean b top left) (top + i) (left + j)) zero_d)
        ∙ ap (λ (m : Float). summed (λ (k : ℕ). squared_from m (v k)) 16) mean_is
        ∙ steps_are 4 (lit≤ tt) v (level_in b top left) (λ (k : ℕ). unsigned _ (sample_at_lem b h _).above) (λ (k : ℕ). small_at _))

    pub quarter_le : sum_to (level_in b top left) 16 * sum_to (level_in b top left) 16 ≤ 16 * squares (level_in b top left) 16
    quarter_le = square_le 16 (level_in b top left) (lit< tt)

    pub sum_most : (n : ℕ) → sum_to (level_in b top left) n ≤ n * 2 ^ 12
    sum_most n = sum_bound (level_in b top left) (2 ^ 12) n (λ (k : ℕ) i. small_at _)

    pub squares_most : (n : ℕ) → squares (level_in b top left) n ≤ n * 2 ^ 24
    squares_most n = sum_bound (λ (k : ℕ). level_in b top left k * level_in b top left k) (2 ^ 24) n (λ (k : ℕ) i. mul-le-mul (small_at _) (small_at _))

  -- ---- the four make up the whole
  pub sums_add : sum_to (level_in b 0 0) 16 + sum_to (level_in b 4 0) 16 + sum_to (level_in b 0 4) 16 + sum_to (level_in b 4 4) 16 ≡ sum_to (level_of b) 64
  sums_add = quarters (λ (i j : ℕ). nat_abs (cell b i j))

  pub squares_add : squares (level_in b 0 0) 16 + squares (level_in b 4 0) 16 + squares (level_in b 0 4) 16 + squares (level_in b 4 4) 16
      ≡ squares (level_of b) 64
  squares_add = quarters (λ (i j : ℕ). nat_abs (cell b i j) * nat_abs (cell b i j))

  -- the variance, of the sums of all samples
  pub gvar_by : (s q : ℕ) → s ≡ sum_to (level_of b) 64 → q ≡ squares (level_of b) 64
      → double (64 * q - s * s) ⊘ sixty_four ⊗ (sixty_four ⊘ sixty_three) ≡ gvar b
  gvar_by s q e k = rw (e, k) (sym gvar_is)

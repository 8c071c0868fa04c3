-- A square of places walked in one loop. Assumes nothing.
use mathlib.Core.Path.{◌≡◌, refl, sym, ◌∙◌}
use mathlib.Core.Bool.{Bool, true, false}
use Prim.Native.Nat.{ℕ, ◌+◌, ◌*◌, ◌/◌, ◌%◌}
use native.Mathlib.Omega.{arith}
use borrow.Author.Tests.{ne_eqb, eqb-true, eqb-false}
use lib.Dec.{eqb}
use Rattle.number.specs.Steps.{fold_to}
use Rattle.hvs_block.specs.Block.{over_square, is_dc}

module _ {A : Type 0} where
  -- a square of places in one loop: k is place (k / 8, k % 8) of a block, (k / 4, k % 4) of a quarter
  abbrev pub flat8 : (A → ℕ → ℕ → A) → A → ℕ → A
  flat8 step a n = fold_to (λ (s : A) (k : ℕ). step s (k / 8) (k % 8)) a n

  abbrev pub flat4 : (A → ℕ → ℕ → A) → A → ℕ → A
  flat4 step a n = fold_to (λ (s : A) (k : ℕ). step s (k / 4) (k % 4)) a n

  pub by_eights : (step : A → ℕ → ℕ → A) (a : A) → flat8 step a 64 ≡ over_square 8 step a
  unfolding fold_to
  by_eights step a = refl

  pub by_fours : (step : A → ℕ → ℕ → A) (a : A) → flat4 step a 16 ≡ over_square 4 step a
  unfolding fold_to
  by_fours step a = refl

-- place k of a block
pub place : (k : ℕ) → 8 * (k / 8) + k % 8 ≡ k
place k = omega arith

pub dc_is : (k : ℕ) → is_dc (k / 8) (k % 8) ≡ eqb k 0
dc_is k = go (eqb k 0) refl
  where
    go : (t : Bool) → eqb k 0 ≡ t → is_dc (k / 8) (k % 8) ≡ eqb k 0
    go true e = rw (eqb-true k 0 e)
    go false e = later (eqb (k / 8) 0) refl ∙ sym e
      where
        later : (u : Bool) → eqb (k / 8) 0 ≡ u → is_dc (k / 8) (k % 8) ≡ false
        later false d = rw d
        later true d = rw d (ne_eqb (k % 8) 0 (λ z. eqb-false k 0 e (omega (arith, eqb-true (k / 8) 0 d))))

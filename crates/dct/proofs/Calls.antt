-- What it means that a call takes what it is given, and what the calls give one after the other: SCOPE's demand of the transform.
-- Assumes nothing.
use mathlib.Core.Path.{◌≡◌, ◌∙◌}
use mathlib.Core.Bool.{true, false, ◌&&◌}
use mathlib.Core.List.{List}
use Prim.Native.Nat.{ℕ}
use lib.Dec.{eqb}
use lib.IntN.{ℤ}
use lib.ListN.{length}
use borrow.Author.Tests.{eq-eqb, eqb-true}
use Rattle.std.specs.Prelude.{Ok, Err}
use Rattle.refusal.specs.declared.Refusal.TheVariants.{Value}
use Rattle.dct.specs.Limits.{block_size, forward_limit, inverse_limit}
use Rattle.lifting.specs.Inner.Within.{AllWithin}
use Rattle.dct.specs.Call.{all_within, block_suits, transform_refusal, out_after}
use Rattle.dct.specs.Block.{fdct8x8, idct8x8}
use Rattle.dct.proofs.Range.{and_parts, small, is_within}
use Rattle.dct.proofs.Round.{undo_transform, transform_undo, length_fdct8x8, length_idct8x8}
use Rattle.dct.proofs.Bound.{returned}

pub record Taken (n : ℕ) (given : List ℤ) (p : ℕ) : Type 0 where
  pub in_places : length given ≡ block_size
  pub out_places : p ≡ block_size
  pub sizes : AllWithin n given

module _ (n : ℕ) (given : List ℤ) (p : ℕ) where
  pub taken : block_suits n given p ≡ true → Taken n given p
  unfolding block_suits
  taken h =
      let q = and_parts (eqb (length given) block_size) (eqb p block_size && all_within n given) h in
      let r = and_parts (eqb p block_size) (all_within n given) q.1 in
      record { in_places = eqb-true (length given) block_size q.0; out_places = eqb-true p block_size r.0; sizes = small n given r.1 }

  is_taken : Taken n given p → block_suits n given p ≡ true
  unfolding block_suits
  is_taken t =
      rw (eq-eqb (length given) block_size t.in_places, eq-eqb p block_size t.out_places, is_within n given t.sizes)

-- ---- the answer, and what is in out

module _ (n : ℕ) (given out : List ℤ) where
  pub told_taken : block_suits n given (length out) ≡ true → transform_refusal n given out ≡ Ok tt
  unfolding transform_refusal
  told_taken h = rw h

  pub told_refused : block_suits n given (length out) ≡ false → transform_refusal n given out ≡ Err Value
  unfolding transform_refusal
  told_refused h = rw h

module _ (n : ℕ) (f : List ℤ → List ℤ) (given out : List ℤ) where
  pub taken_after : block_suits n given (length out) ≡ true → out_after n f given out ≡ f given
  unfolding out_after
  taken_after h = rw h

  pub refused_after : block_suits n given (length out) ≡ false → out_after n f given out ≡ out
  unfolding out_after
  refused_after h = rw h

  accepted : block_suits n given (length out) ≡ true → (transform_refusal n given out ≡ Ok tt) × (out_after n f given out ≡ f given)
  accepted h = (told_taken n given out h, taken_after h)

-- what a call learns of the test of what it is given
pub ruleset call_steps = (taken, told_taken, told_refused, taken_after, refused_after, length_fdct8x8, transform_undo)

-- ---- the calls one after the other

-- forward, then inverse: a block of 64 values in range returns, neither call refusing
pub forward_then_inverse : (b out out₂ : List ℤ) → length b ≡ block_size → length out ≡ block_size → length out₂ ≡ block_size → AllWithin forward_limit b
    → (let z = out_after forward_limit fdct8x8 b out in
    (transform_refusal forward_limit b out ≡ Ok tt) × (transform_refusal inverse_limit z out₂ ≡ Ok tt) × (out_after inverse_limit idct8x8 z out₂ ≡ b))
forward_then_inverse b out out₂ e o o₂ h =
    let p = accepted forward_limit fdct8x8 b out (is_taken forward_limit b (length out) (record { in_places = e; out_places = o; sizes = h })) in
    let q = accepted inverse_limit idct8x8 (fdct8x8 b) out₂
    (is_taken inverse_limit (fdct8x8 b) (length out₂) (record { in_places = length_fdct8x8 b; out_places = o₂; sizes = returned b h })) in
    (p.0, rw p.1 q.0, rw p.1 (q.1 ∙ undo_transform b e))

-- inverse, then forward: coefficients in range whose inverse lies in forward's range return
pub inverse_then_forward : (z out out₂ : List ℤ) → length z ≡ block_size → length out ≡ block_size → length out₂ ≡ block_size → AllWithin inverse_limit z
    → AllWithin forward_limit (idct8x8 z)
    → (let b = out_after inverse_limit idct8x8 z out in
    (transform_refusal inverse_limit z out ≡ Ok tt) × (transform_refusal forward_limit b out₂ ≡ Ok tt) × (out_after forward_limit fdct8x8 b out₂ ≡ z))
inverse_then_forward z out out₂ e o o₂ h k =
    let p = accepted inverse_limit idct8x8 z out (is_taken inverse_limit z (length out) (record { in_places = e; out_places = o; sizes = h })) in
    let q = accepted forward_limit fdct8x8 (idct8x8 z) out₂
    (is_taken forward_limit (idct8x8 z) (length out₂) (record { in_places = length_idct8x8 z; out_places = o₂; sizes = k })) in
    (p.0, rw p.1 q.0, rw p.1 (q.1 ∙ transform_undo z e))

-- The five sums down one column of two views, tap by tap: none yet, one tap more, and all. One law for every sample width. Assumes nothing.
use mathlib.Core.Path.{◌≡◌, refl, sym, ap, ◌∙◌}
use mathlib.Core.List.{List}
use Prim.Native.Nat.{ℕ, ◌+◌, ◌-◌, ◌*◌, ◌/◌, ◌≤◌, ◌<◌}
use native.Mathlib.Omega.{arith}
use lib.ListN.{length}
use Rattle.plane.proofs.Limits.{side_small}
use Rattle.plane.proofs.Sums.{sum_ext}
use Rattle.kernel.proofs.Says.{taps_room}
use Rattle.kernel.specs.Kernel.{tap}
use Rattle.window.specs.Moments.{most_sample}
use Rattle.window.specs.Inner.Parts.{Kernel, part_of, parts_of, quant_of, five_sums_of, tapped_of, Room}
use Rattle.window.specs.Inner.Columns.{column_to, Fits}
use Rattle.window.specs.declared.FiveSums.{FiveSums}
use Rattle.window.proofs.Sums.Windows.{clipped_both}
use Rattle.window.proofs.Sums.Five.{five_ext, quant_le, quant_small, parts_more, parts_first, parts_last, parts_room, parts_low}

module _ (ker : List ℕ) (height : ℕ) (a b : ℕ → ℕ → ℕ) (x y k : ℕ) where
  -- no tap before the first inside counts
  pub column_none : k ≤ length ker / 2 - y → five_sums_of (λ (m : ℕ). 0) ≡ column_to ker height a b x y k
  unfolding column_to
  column_none l = sym (parts_first ker height _ y k l)

  -- none past the last inside counts
  pub column_last : Kernel ker → length ker - (y + length ker / 2 + 1 - height) ≤ k → k ≤ length ker
      → column_to ker height a b x y k ≡ column_to ker height a b x y (length ker)
  unfolding column_to
  column_last kernel l m = parts_last ker height _ y kernel k l m

  pub column_all : (t : FiveSums) → t ≡ column_to ker height a b x y k → Kernel ker → length ker - (y + length ker / 2 + 1 - height) ≤ k → k ≤ length ker
      → t ≡ column_to ker height a b x y (length ker)
  column_all t e kernel l m = e ∙ column_last kernel l m

  -- tap k, of the samples u and v
  module _ (t : FiveSums) (u v : ℕ) (e : t ≡ column_to ker height a b x y k) (p : u ≡ a (y + k - length ker / 2) x) (q : v ≡ b (y + k - length ker / 2) x) where
    pub column_more : (t' : FiveSums) → t' ≡ tapped_of t (tap ker k) (λ (m : ℕ). quant_of m u v) → length ker / 2 ≤ y + k → y + k < length ker / 2 + height
        → t' ≡ column_to ker height a b x y (k + 1)
    unfolding column_to
    column_more t' f l m = rw (f, e, p, q) (sym (parts_more ker height (λ (m r : ℕ). quant_of m (a r x) (b r x)) y k l m))

    -- there is room for it
    pub column_room : Kernel ker → ((r : ℕ) → r < height → a r x ≤ most_sample) → ((r : ℕ) → r < height → b r x ≤ most_sample)
        → k < length ker → length ker / 2 ≤ y + k → y + k < length ker / 2 + height → Room t (tap ker k) (λ (m : ℕ). quant_of m u v)
    unfolding column_to
    column_room kernel small_a small_b n l m =
        rw (p, q)
        (parts_room ker height (λ (m r : ℕ). quant_of m (a r x) (b r x)) y t k e kernel
        (λ i _ j _ f g. quant_small i _ _ (small_a _ (omega arith)) (small_b _ (omega arith))) n l m)

-- and all of the taps come to what scratch can hold
pub column_fits : (ker : List ℕ) (height : ℕ) (a b : ℕ → ℕ → ℕ) (x y : ℕ) (t : FiveSums) → t ≡ column_to ker height a b x y (length ker) → Kernel ker
    → ((r : ℕ) → r < height → a r x ≤ most_sample) → ((r : ℕ) → r < height → b r x ≤ most_sample) → Fits t
unfolding column_to
column_fits ker height a b x y t e kernel small_a small_b =
    parts_low ker height (λ (m r : ℕ). quant_of m (a r x) (b r x)) y t e kernel
    (λ m k _ f g. quant_le m _ _ (small_a _ (omega arith)) (small_b _ (omega arith)))

-- views that show the same in a column have the same sums there
pub column_ext : (ker : List ℕ) (height : ℕ) (a b a' b' : ℕ → ℕ → ℕ) (x y n : ℕ) → ((r : ℕ) → r < height → a r x ≡ a' r x)
    → ((r : ℕ) → r < height → b r x ≡ b' r x) → column_to ker height a b x y n ≡ column_to ker height a' b' x y n
unfolding column_to parts_of part_of
column_ext ker height a b a' b' x y n same_a same_b =
    five_ext _ _ (λ m.
    sum_ext _ _ n (λ k l.
    ap (λ (u : ℕ). tap ker k * u)
    (clipped_both (λ (p q : ℕ). p ≡ q) (length ker / 2) height (λ (r : ℕ). quant_of m (a r x) (b r x)) (λ (r : ℕ). quant_of m (a' r x) (b' r x)) (y + k) refl
    (λ f g. rw (same_a (y + k - length ker / 2) (omega arith), same_b (y + k - length ker / 2) (omega arith))))))

-- what the loops down a column rest on
pub ruleset down_column = (side_small, taps_room, column_none, column_more, column_room, column_last)

-- What a row of stores leaves is one list: `Put` and the length say all of it. Assumes nothing.
use mathlib.Core.Path.{◌≡◌, refl, sym, ◌∙◌}
use mathlib.Core.List.{List}
use Prim.Native.Nat.{ℕ, zero, suc, ◌+◌, ◌-◌, ◌≤◌, ◌<◌}
use native.Mathlib.Decide.{dec_lt}
use native.Mathlib.Omega.{arith}
use lib.IntN.{ℤ, pos}
use lib.ListN.{length, set, length-set}
use lib.Seq.{ext_get_or}
use Rattle.number.proofs.Folds.{fold_more, fold_none}
use Rattle.window.specs.Inner.Columns.{at_z, Put}
use Rattle.window.proofs.Sums.Stores.{put_none, put_more}
use Rattle.row_ring.specs.Ring.{stored_of}

module _ (s : List ℤ) (from : ℕ) (g : ℕ → ℕ) where
  none : stored_of s from g 0 ≡ s
  unfolding stored_of
  none = fold_none _ s

  more : (n : ℕ) → stored_of s from g (suc n) ≡ set (stored_of s from g n) (from + n) (pos (g n))
  unfolding stored_of
  more n = let e : suc n ≡ n + 1 = omega arith in rw e (fold_more _ s n)

  pub stored_length : (n : ℕ) → length (stored_of s from g n) ≡ length s
  stored_length zero = rw none
  stored_length (suc n) = rw (more n) (length-set (stored_of s from g n) (from + n) (pos (g n)) ∙ stored_length n)

  pub stored_put : (n : ℕ) → from + n ≤ length s → Put s (stored_of s from g n) from n g
  stored_put zero l = rw none (put_none s from g)
  stored_put (suc n) l =
      let e : suc n ≡ n + 1 = omega arith in
      rw (more n, e) (put_more s (stored_of s from g n) from n g (pos (g n)) (stored_put n (omega arith)) refl (omega (arith, stored_length n)))

-- two lists that a row of stores can leave are one
put_one : (old l l' : List ℤ) (from n : ℕ) (g : ℕ → ℕ) → Put old l from n g → Put old l' from n g → length l ≡ length l' → l ≡ l'
put_one old l l' from n g p q e = ext_get_or (pos 0) l l' e (λ i m. go i (dec_lt i from) (dec_lt i (from + n)))
  where
    go : (i : ℕ) → Dec (i < from) → Dec (i < from + n) → at_z l i ≡ at_z l' i
    go i (yes u) d = p.before i u ∙ sym (q.before i u)
    go i (no u) (no v) = p.after i (omega arith) ∙ sym (q.after i (omega arith))
    go i (no u) (yes v) =
        let f : from + (i - from) ≡ i = omega arith in
        rw f at (p.there (i - from) (omega arith) ∙ sym (q.there (i - from) (omega arith)))

pub put_is : (old new : List ℤ) (from n : ℕ) (g : ℕ → ℕ) → Put old new from n g → length new ≡ length old → from + n ≤ length old
    → new ≡ stored_of old from g n
put_is old new from n g p e l = put_one old new (stored_of old from g n) from n g p (stored_put old from g n l) (e ∙ sym (stored_length old from g n))

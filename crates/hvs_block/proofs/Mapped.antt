-- What an array's `map` gives, by its places. Assumes nothing.
use Rattle.std.proofs.Common.{◌≡◌, ℕ, zero, suc, ◌<◌, ◌≤◌, List, length, take, get_or, sym, refl, ◌∙◌, arith, take_all}
use Rattle.std.proofs.Math.Seq.{take-suc}
use Rattle.std.specs.Array.{IsMapOf}
use Rattle.std.specs.Fn.{Mut, Called}
use Rattle.number.specs.Steps.{list_to}

-- a list is known by what stands at each place
module _ {A : Type 0} (f : ℕ → A) (d : A) (l : List A) (h : (i : ℕ) → i < length l → get_or l i d ≡ f i) where
  below : (i : ℕ) → i ≤ length l → take i l ≡ list_to f i
  unfolding list_to
  below zero m = refl
  below (suc i) m = rw (take-suc l i d (omega arith), below i (omega arith), h i (omega arith))

-- calls that answer f at each element give the list of f at each place
pub mapped : {F A B : Type 0} {g : Mut F (A × Unit {0}) B} {s : F} {xs : List A} {ys : List B} {n : ℕ} (f : A → B) (d : A) (e : B) → IsMapOf g s xs ys n
    → ((p q : F) (x : A) (y : B) → Called g p (x, tt) y q → y ≡ f x) → ys ≡ list_to (λ (i : ℕ). f (get_or xs i d)) n
mapped {xs = xs} {ys = ys} {n = n} f d e h answers =
    let each = λ (i : ℕ) (l : i < length ys). let k = h.at i d e (omega (arith, h.long)) in answers k.0 k.1 _ _ k.2 in
    sym (take_all n ys (omega (arith, h.long))) ∙ below (λ (i : ℕ). f (get_or xs i d)) e ys each n (omega (arith, h.long))

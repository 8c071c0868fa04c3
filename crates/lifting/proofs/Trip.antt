-- Steps undo each other, whatever function of the other place they take: there and back, and back and there. Assumes nothing.
use mathlib.Core.Path.{◌≡◌, refl, sym, ap, ap₂, ◌∙◌, subst}
use mathlib.Core.Logic.{◌≢◌}
use mathlib.Core.Bool.{Bool, true, false, not, ◌&&◌}
use mathlib.Core.List.{List, [], ◌∷◌, ◌++◌, append_assoc, append-nil}
use Prim.Native.Nat.{ℕ, ◌<◌}
use lib.Dec.{T, T_not, eqb, eqb_refl, ltb, ltb→lt}
use lib.IntN.{ℤ, pos, neg_ℤ, ◌+ℤ◌, ◌-ℤ◌, +ℤ-neg_ℤ_cancel, -ℤ-+ℤ_cancel, +ℤ_assoc, +ℤ_invr, +ℤ_idl, neg_ℤ-+ℤ, neg_ℤ-neg_ℤ}
use lib.ListN.{length, get_or, set, length-set}
use lib.Seq.{get_or-set_same, get_or-set_other, set-set, set-get_or}
use Rattle.lifting.specs.Steps.{of, Step, plus, less, from, step, run, undo, undo_all}
use Rattle.lifting.specs.Steps.{steps, steps1, steps2, steps3, steps4, steps5}

-- k - (k - m) is m
twice : (k m : ℤ) → k -ℤ (k -ℤ m) ≡ m
twice k m =
    ap (λ (x : ℤ). k +ℤ x) (neg_ℤ-+ℤ k (neg_ℤ m)) ∙ sym (+ℤ_assoc k (neg_ℤ k) (neg_ℤ (neg_ℤ m)))
    ∙ ap (λ (x : ℤ). x +ℤ neg_ℤ (neg_ℤ m)) (+ℤ_invr k) ∙ +ℤ_idl (neg_ℤ (neg_ℤ m)) ∙ neg_ℤ-neg_ℤ m

-- the place that a step writes is within n places, and is not the one it reads
record Separate (n i j : ℕ) : Type 0 where
  inside : i < n
  apart : j ≢ i

unfoldable Apart : ℕ → Step → Type 0
Apart n (plus i j f) = Separate n i j
Apart n (less i j f) = Separate n i j
Apart n (from i j f) = Separate n i j

unfoldable AllApart : ℕ → List Step → Type 0
AllApart n [] = Unit {0}
AllApart n (s ∷ ss) = Apart n s × AllApart n ss

-- by a test, which computes
separate : ℕ → ℕ → ℕ → Bool
separate n i j = ltb i n && not (eqb j i)

test : ℕ → Step → Bool
test n (plus i j f) = separate n i j
test n (less i j f) = separate n i j
test n (from i j f) = separate n i j

tests : ℕ → List Step → Bool
tests n [] = true
tests n (s ∷ ss) = test n s && tests n ss

both : (a b : Bool) → T (a && b) → T a × T b
both true b t = (tt, t)
both false b t = absurd t

is_separate : (n i j : ℕ) → T (separate n i j) → Separate n i j
unfolding separate
is_separate n i j t =
    let p = both (ltb i n) (not (eqb j i)) t in
    record {
      inside = ltb→lt i n p.0;
      apart = λ e. T_not (eqb j i) p.1 (subst (λ (k : ℕ). T (eqb j k)) e (eqb_refl j));
    }

is_apart : (n : ℕ) (s : Step) → T (test n s) → Apart n s
unfolding test Apart
is_apart n (plus i j f) t = is_separate n i j t
is_apart n (less i j f) t = is_separate n i j t
is_apart n (from i j f) t = is_separate n i j t

all_apart : (n : ℕ) (ss : List Step) → T (tests n ss) → AllApart n ss
unfolding tests AllApart
all_apart n [] t = tt
all_apart n (s ∷ ss) t = let p = both (test n s) (tests n ss) t in (is_apart n s p.0, all_apart n ss p.1)

steps_apart : AllApart 8 steps
unfolding test tests separate steps steps1 steps2 steps3 steps4 steps5
steps_apart = all_apart 8 steps tt

undone_apart : AllApart 8 (undo_all steps)
unfolding test tests separate steps steps1 steps2 steps3 steps4 steps5
undone_apart = all_apart 8 (undo_all steps) tt

-- a write that h of the two places undoes
rewritten : (v : List ℤ) (i j : ℕ) (g h : ℤ → ℤ → ℤ) → i < length v → j ≢ i → ((a b : ℤ) → h (g a b) b ≡ a)
    → (let w = set v i (g (get_or v i (pos 0)) (get_or v j (pos 0))) in set w i (h (get_or w i (pos 0)) (get_or w j (pos 0)))) ≡ v
rewritten v i j g h l d e =
    let a = get_or v i (pos 0) in
    let b = get_or v j (pos 0) in
    set-set v i (g a b) _
    ∙ ap (λ (x : ℤ). set v i x)
    (ap₂ h (get_or-set_same v i (g a b) (pos 0) l) (get_or-set_other v i j (g a b) (pos 0) d) ∙ e a b)
    ∙ set-get_or v i (pos 0)

undoes : (s : Step) (v : List ℤ) → Apart (length v) s → step (undo s) (step s v) ≡ v
unfolding Apart
undoes (plus i j f) v p = rewritten v i j (λ a b. a +ℤ of f b) (λ a b. a -ℤ of f b) p.inside p.apart (λ a b. +ℤ-neg_ℤ_cancel a (of f b))
undoes (less i j f) v p = rewritten v i j (λ a b. a -ℤ of f b) (λ a b. a +ℤ of f b) p.inside p.apart (λ a b. -ℤ-+ℤ_cancel a (of f b))
undoes (from i j f) v p = rewritten v i j (λ a b. of f b -ℤ a) (λ a b. of f b -ℤ a) p.inside p.apart (λ a b. twice (of f b) a)

length_step : (s : Step) (v : List ℤ) → length (step s v) ≡ length v
length_step (plus i j f) v = length-set v i _
length_step (less i j f) v = length-set v i _
length_step (from i j f) v = length-set v i _

pub run_append : (a b : List Step) (v : List ℤ) → run (a ++ b) v ≡ run b (run a v)
run_append [] b v = refl
run_append (s ∷ ss) b v = run_append ss b (step s v)

undone : (ss : List Step) (v : List ℤ) → AllApart (length v) ss → run (undo_all ss) (run ss v) ≡ v
unfolding AllApart
undone [] v p = refl
undone (s ∷ ss) v p =
    run_append (undo_all ss) (undo s ∷ []) (run ss (step s v))
    ∙ ap (λ (w : List ℤ). step (undo s) w) (undone ss (step s v) (subst (λ (n : ℕ). AllApart n ss) (sym (length_step s v)) p.1))
    ∙ undoes s v p.0

pub length_run : (ss : List Step) (v : List ℤ) → length (run ss v) ≡ length v
length_run [] v = refl
length_run (s ∷ ss) v = length_run ss (step s v) ∙ length_step s v

-- ---- the steps and the steps undone

undo_append : (a b : List Step) → undo_all (a ++ b) ≡ undo_all b ++ undo_all a
undo_append [] b = sym (append-nil (undo_all b))
undo_append (s ∷ a) b = ap (λ (l : List Step). l ++ undo s ∷ []) (undo_append a b) ∙ append_assoc (undo_all b) (undo_all a) (undo s ∷ [])

undo_twice : (s : Step) → undo (undo s) ≡ s
undo_twice (plus i j f) = refl
undo_twice (less i j f) = refl
undo_twice (from i j f) = refl

undo_all_twice : (ss : List Step) → undo_all (undo_all ss) ≡ ss
undo_all_twice [] = refl
undo_all_twice (s ∷ ss) = undo_append (undo_all ss) (undo s ∷ []) ∙ ap₂ (λ (a : Step) (l : List Step). a ∷ l) (undo_twice s) (undo_all_twice ss)

pub there_and_back : (v : List ℤ) → length v ≡ 8 → run (undo_all steps) (run steps v) ≡ v
there_and_back v e = undone steps v (subst (λ (n : ℕ). AllApart n steps) (sym e) steps_apart)

pub back_and_there : (v : List ℤ) → length v ≡ 8 → run steps (run (undo_all steps) v) ≡ v
back_and_there v e =
    ap (λ (ss : List Step). run ss (run (undo_all steps) v)) (sym (undo_all_twice steps))
    ∙ undone (undo_all steps) v (subst (λ (n : ℕ). AllApart n (undo_all steps)) (sym e) undone_apart)

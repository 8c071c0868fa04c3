-- What it means that records rise: of any two the one that stands first comes before the other (`rising_says`). Assumes nothing.
use Rattle.std.proofs.Common.{◌≡◌, ℕ, zero, suc, ◌<◌, Bool, true, false, ◌&&◌, ◌||◌, eqb, ltb, ◌⊎◌, List, [], ◌∷◌, length, get_or, refl, ◌∙◌, inl, inr, not-suc-le-zero, arith, ltb-true, lt-ltb, eq-eqb, eqb-true}
use mathlib.Core.Bool.{or-true}
use Rattle.refusal.proofs.Chain.{and_left, and_right}
use Rattle.psnr.specs.declared.Record.{Record}
use Rattle.psnr.specs.Record.{earlier, before}
use Rattle.psnr.specs.Series.{rising}

-- ---- one frame and plane before another
pub next_frame : (f p g q : ℕ) → f < g → earlier f p g q ≡ true
unfolding earlier
next_frame f p g q l = rw (lt-ltb f g l)

pub next_plane : (f p q : ℕ) → p < q → earlier f p f q ≡ true
unfolding earlier
next_plane f p q l = rw (eq-eqb f f refl, lt-ltb p q l) (or-true (ltb f f))

pub earlier_says : (f p g q : ℕ) → earlier f p g q ≡ true → (f < g) ⊎ ((f ≡ g) × (p < q))
unfolding earlier
earlier_says f p g q e = go (ltb f g) refl e
  where
    go : (c : Bool) → ltb f g ≡ c → (c || (eqb f g && ltb p q)) ≡ true → (f < g) ⊎ ((f ≡ g) × (p < q))
    go true t h = inl (ltb-true f g t)
    go false t h = inr (eqb-true f g (and_left _ _ h), ltb-true p q (and_right (eqb f g) _ h))

-- of three, the first comes before the last
earlier_on : (f p g q h r : ℕ) → earlier f p g q ≡ true → earlier g q h r ≡ true → earlier f p h r ≡ true
earlier_on f p g q h r a b = go (earlier_says f p g q a) (earlier_says g q h r b)
  where
    go : (f < g) ⊎ ((f ≡ g) × (p < q)) → (g < h) ⊎ ((g ≡ h) × (q < r)) → earlier f p h r ≡ true
    go (inl l) (inl m) = next_frame f p h r (omega arith)
    go (inl l) (inr m) = next_frame f p h r (omega (arith, l, m.0))
    go (inr l) (inl m) = next_frame f p h r (omega (arith, l.0, m))
    go (inr l) (inr m) = rw (← (l.0 ∙ m.0)) (next_plane f p r (omega (arith, l.1, m.1)))

-- ---- a run of records
-- the first comes before all others
before_all : (none r : Record) (rs : List Record) → rising (r ∷ rs) ≡ true → (j : ℕ) → j < length rs → before r (get_or rs j none) ≡ true
unfolding rising
before_all none r [] e j l = absurd (not-suc-le-zero l)
before_all none r (s ∷ rs) e zero l = and_left _ _ e
before_all none r (s ∷ rs) e (suc j) l =
    earlier_on _ _ _ _ _ _ (and_left _ _ e) (before_all none s rs (and_right (before r s) _ e) j (omega arith))

pub rising_rest : (r : Record) (rs : List Record) → rising (r ∷ rs) ≡ true → rising rs ≡ true
unfolding rising
rising_rest r [] e = refl
rising_rest r (s ∷ rs) e = and_right (before r s) _ e

-- of any two the one that stands first comes before the other
pub rising_says : (none : Record) (rs : List Record) → rising rs ≡ true → (i j : ℕ) → i < j → j < length rs → before (get_or rs i none) (get_or rs j none) ≡ true
rising_says none [] e i j l m = absurd (not-suc-le-zero m)
rising_says none (r ∷ rs) e i zero l m = absurd (not-suc-le-zero l)
rising_says none (r ∷ rs) e zero (suc j) l m = before_all none r rs e j (omega arith)
rising_says none (r ∷ rs) e (suc i) (suc j) l m = rising_says none rs (rising_rest r rs e) i j (omega arith) (omega arith)

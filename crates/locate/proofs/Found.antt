-- What a user may count on of the locator: the place that it finds is the first that differs, it finds none exactly where the squared
-- error is 0, padding does not count, nor does which plane comes first. Assumes nothing.
use mathlib.Core.Path.{◌≡◌, refl, sym, ap, ◌∙◌}
use mathlib.Core.Bool.{Bool, true, false, cond, not}
use mathlib.Core.Logic.{◌⊎◌, inl, inr, ⊎_elim}
use Prim.Native.Nat.{ℕ, zero, suc, ◌≤◌, ◌<◌}
use native.Mathlib.Nat.{not-suc-le-zero, mul-le-mul}
use native.Mathlib.Decide.{dec_lt}
use native.Mathlib.Omega.{arith}
use borrow.Author.Tests.{eqb-true, eqb-false, not-true, not-false, eq-eqb, ne_eqb}
use lib.Dec.{eqb}
use Rattle.std.specs.Prelude.{Option, None, Some, Ok, Err}
use Rattle.refusal.specs.First.{Verdict, unless_refused}
use Rattle.plane.specs.Plane.{Size, Plane, Planes, planes_of, sample_at}
use Rattle.plane.specs.Tests.{pair_refusal}
use Rattle.plane.specs.Inner.Lawful.{Equivalent}
use Rattle.plane.proofs.Sums.{sum_term}
use Rattle.plane.proofs.Exchange.{refusal_exchanged, refusal_equivalent}
use Rattle.psnr.specs.declared.SquaredError.TheVariants.{Identical}
use Rattle.psnr.specs.declared.Record.{Record}
use Rattle.psnr.specs.Record.{plane_suits}
use Rattle.psnr.specs.Squared.{apart, square_of, row_error, error_to, squared_error_score, record_of, error_answer, squared_error_refusal, squared_error_of}
use Rattle.psnr.proofs.Accept.{error_taken, planes_alone}
use Rattle.psnr.proofs.Laws.{equal_planes}
use Rattle.locate.specs.declared.Place.{Place}
use Rattle.locate.specs.Where.{differ_at, place, or_else, along_to, down_to, first_difference, located_of}
use Rattle.locate.proofs.Places.{along_quiet, found, same, unlike}

-- ---- what a search says of its parts
abbrev row_of : Option Place → ℕ
row_of (Some x) = x.row
row_of None = 0

abbrev column_of : Option Place → ℕ
column_of (Some x) = x.column
column_of None = 0

or_none : (l m : Option Place) → or_else l m ≡ None → (l ≡ None) × (m ≡ None)
or_none None m e = (refl, e)
or_none (Some x) m e = cc

or_some : (l m : Option Place) {x : Place} → or_else l m ≡ Some x → (l ≡ Some x) ⊎ ((l ≡ None) × (m ≡ Some x))
or_some None m e = inr (refl, e)
or_some (Some x) m e = inl e

one_none : (b : Bool) (y x : ℕ) → cond b (Some (place y x)) None ≡ None → b ≡ false
one_none true y x e = cc
one_none false y x e = refl

one_some : (b : Bool) (y x : ℕ) {r c : ℕ} → cond b (Some (place y x)) None ≡ Some (place r c) → (b ≡ true) × (y ≡ r) × (x ≡ c)
one_some true y x e = (refl, ap row_of e, ap column_of e)
one_some false y x e = cc

module _ (f : ℕ → ℕ → Bool) where
  -- a row in which nothing is found
  along_alike : (y n : ℕ) → along_to f y n ≡ None → (x : ℕ) → x < n → f y x ≡ false
  unfolding along_to
  along_alike y zero e x l = absurd (not-suc-le-zero l)
  along_alike y (suc n) e x l = let t = or_none (along_to f y n) _ e in go (along_alike y n t.0 x) t.1 (dec_lt x n)
    where
      go : (x < n → f y x ≡ false) → cond (f y n) (Some (place y n)) None ≡ None → Dec (x < n) → f y x ≡ false
      go earlier t (yes m) = earlier m
      go earlier t (no m) = let q : x ≡ n = omega arith in rw q (one_none (f y n) y n t)

  -- rows in which nothing is found
  down_alike : (width n : ℕ) → down_to f width n ≡ None → (y x : ℕ) → y < n → x < width → f y x ≡ false
  unfolding down_to
  down_alike width zero e y x ly lx = absurd (not-suc-le-zero ly)
  down_alike width (suc n) e y x ly lx =
      let t = or_none (down_to f width n) _ e in go (λ m. down_alike width n t.0 y x m lx) t.1 (dec_lt y n)
    where
      go : (y < n → f y x ≡ false) → along_to f n width ≡ None → Dec (y < n) → f y x ≡ false
      go earlier t (yes m) = earlier m
      go earlier t (no m) = let q : y ≡ n = omega arith in rw q (along_alike n width t x lx)

  down_quiet : (width n : ℕ) → ((y x : ℕ) → y < n → x < width → f y x ≡ false) → down_to f width n ≡ None
  unfolding down_to
  down_quiet width zero h = refl
  down_quiet width (suc n) h =
      rw (down_quiet width n (λ y x ly lx. h y x (omega arith) lx), along_quiet f n width (λ x lx. h n x (omega arith) lx))

  -- a place that is found is inside, f holds there, and nowhere earlier
  along_at : (y n r c : ℕ) → along_to f y n ≡ Some (place r c) → (y ≡ r) × (c < n) × (f y c ≡ true) × (along_to f y c ≡ None)
  unfolding along_to
  along_at y zero r c e = cc
  along_at y (suc n) r c e =
      ⊎_elim
      (λ t. let s = along_at y n r c t in (s.0, omega (arith, s.1), s.2, s.3))
      (λ t. let o = one_some (f y n) y n t.1 in (o.1, omega (arith, o.2), rw o.2 at o.0, rw o.2 at t.0))
      (or_some (along_to f y n) _ e)

  down_at : (width n r c : ℕ) → down_to f width n ≡ Some (place r c)
      → (r < n) × (c < width) × (f r c ≡ true) × (down_to f width r ≡ None) × (along_to f r c ≡ None)
  unfolding down_to
  down_at width zero r c e = cc
  down_at width (suc n) r c e =
      ⊎_elim
      (λ t. let s = down_at width n r c t in (omega (arith, s.0), s.1, s.2, s.3, s.4))
      (λ t. let s = along_at n width r c t.1 in
      (omega (arith, s.0), s.1, rw s.0 at s.2, rw s.0 at t.0, rw s.0 at s.3))
      (or_some (down_to f width n) _ e)

-- f and g say the same of every place
along_ext : (f g : ℕ → ℕ → Bool) (y n : ℕ) → ((x : ℕ) → x < n → f y x ≡ g y x) → along_to f y n ≡ along_to g y n
unfolding along_to
along_ext f g y zero h = refl
along_ext f g y (suc n) h = rw (along_ext f g y n (λ x l. h x (omega arith)), h n (omega arith))

down_ext : (f g : ℕ → ℕ → Bool) (width n : ℕ) → ((y x : ℕ) → y < n → x < width → f y x ≡ g y x) → down_to f width n ≡ down_to g width n
unfolding down_to
down_ext f g width zero h = refl
down_ext f g width (suc n) h =
    rw (down_ext f g width n (λ y x ly lx. h y x (omega arith) lx), along_ext f g n width (λ x lx. h n x (omega arith) lx))

-- ---- the place
-- row r and column c are inside, the samples there differ, and at every earlier place they agree
pub record First (p : Planes) (r c : ℕ) : Type 0 where
  pub row_inside : r < p.size.height
  pub column_inside : c < p.size.width
  pub differs : sample_at p.a r c ≡ sample_at p.b r c → ⊥
  pub above : (y x : ℕ) → y < r → x < p.size.width → sample_at p.a y x ≡ sample_at p.b y x
  pub before : (x : ℕ) → x < c → sample_at p.a r x ≡ sample_at p.b r x

module _ (p : Planes) where
  -- samples that do not differ agree, and the other way
  agree : (r c : ℕ) → differ_at p r c ≡ false → sample_at p.a r c ≡ sample_at p.b r c
  agree r c e = eqb-true _ _ (not-false _ e)

  -- what is found is the first place that differs, and that place is found
  pub found_first : (r c : ℕ) → first_difference p ≡ Some (place r c) → First p r c
  found_first r c e =
      let s = down_at (differ_at p) p.size.width p.size.height r c e in
      record {
        row_inside = s.0;
        column_inside = s.1;
        differs = eqb-false _ _ (not-true _ s.2);
        above = λ y x ly lx. agree y x (down_alike (differ_at p) p.size.width r s.3 y x ly lx);
        before = λ x l. agree r x (along_alike (differ_at p) r c s.4 x l);
      }

  pub first_found : (r c : ℕ) → First p r c → first_difference p ≡ Some (place r c)
  first_found r c t =
      found (differ_at p) p.size.width p.size.height r c
      (down_quiet (differ_at p) p.size.width r (λ y x ly lx. same _ _ (t.above y x ly lx)))
      (along_quiet (differ_at p) r c (λ x l. same _ _ (t.before x l)))
      (unlike _ _ t.differs) t.column_inside t.row_inside

  -- ---- none, and the squared error
  no_square : (a b : ℕ) → square_of a b ≡ 0 → a ≡ b
  unfolding square_of
  no_square a b e = go (dec_lt 0 (apart a b))
    where
      go : Dec (0 < apart a b) → a ≡ b
      go (yes l) = absurd (omega (arith, e, mul-le-mul l l))
      go (no l) = omega arith

  alike_zero : first_difference p ≡ None → squared_error_score p ≡ 0
  alike_zero e =
      equal_planes p.size p.a p.b
      (λ r c lr lc. agree r c (down_alike (differ_at p) p.size.width p.size.height e r c lr lc))

  zero_alike : squared_error_score p ≡ 0 → first_difference p ≡ None
  unfolding error_to row_error
  zero_alike e =
      let w : ℕ = p.size.width in
      let h : ℕ = p.size.height in
      let square : ℕ → ℕ → ℕ = λ y x. square_of (sample_at p.a y x) (sample_at p.b y x) in
      down_quiet (differ_at p) w h
      (λ y x ly lx. let one : square y x ≤ row_error p w y = sum_term (square y) w x lx in
      let row : row_error p w y ≤ squared_error_score p = sum_term (row_error p w) h y ly in
      let none : square y x ≡ 0 = omega (arith, e, one, row) in
      same _ _ (no_square _ _ none))

  -- the locator says "alike" exactly where the squared error says "identical"
  module _ (frame plane : ℕ) where
    abbrev its : Record
    its = record_of p frame plane

    pub alike_identical : plane_suits plane ≡ true → located_of p ≡ Ok None → squared_error_of p frame plane ≡ Ok (Identical its)
    unfolding located_of squared_error_of
    alike_identical suits e = rw (planes_alone plane p suits) (go (pair_refusal p 0) e)
      where
        go : (v : Verdict) → unless_refused v (Ok (first_difference p)) ≡ Ok None
            → unless_refused v (Ok (error_answer (squared_error_score p) its)) ≡ Ok (Identical its)
        go (Ok _) t = rw (alike_zero (cc t))
        go (Err r) t = cc

    pub identical_alike : squared_error_of p frame plane ≡ Ok (Identical its) → located_of p ≡ Ok None
    unfolding located_of squared_error_of
    identical_alike e = go (squared_error_refusal p plane) refl e
      where
        no_error : (n : ℕ) → error_answer n its ≡ Identical its → n ≡ 0
        no_error zero t = refl
        no_error (suc n) t = cc

        go : (v : Verdict) → squared_error_refusal p plane ≡ v → unless_refused v (Ok (error_answer (squared_error_score p) its)) ≡ Ok (Identical its)
            → unless_refused (pair_refusal p 0) (Ok (first_difference p)) ≡ Ok None
        go (Ok _) z t =
            let free : pair_refusal p 0 ≡ Ok tt = sym (planes_alone plane p (error_taken plane p z).1) ∙ z in
            rw (free, zero_alike (no_error (squared_error_score p) (cc t)))
        go (Err r) z t = cc

-- ---- what does not count
eqb_swap : (a b : ℕ) → eqb a b ≡ eqb b a
eqb_swap a b = go (eqb a b) refl
  where
    go : (t : Bool) → eqb a b ≡ t → eqb a b ≡ eqb b a
    go true e = e ∙ sym (eq-eqb b a (sym (eqb-true a b e)))
    go false e = e ∙ sym (ne_eqb b a (λ q. eqb-false a b e (sym q)))

module _ (size : Size) where
  -- padding, strides and what comes after the last row
  pub located_visible : {a b a' b' : Plane} → Equivalent size a a' → Equivalent size b b'
      → located_of (planes_of size a b) ≡ located_of (planes_of size a' b')
  unfolding located_of
  located_visible {a} {b} {a'} {b'} p q =
      let places : first_difference (planes_of size a b) ≡ first_difference (planes_of size a' b') =
      down_ext _ _ size.width size.height (λ y x ly lx. rw (p.alike y x ly lx, q.alike y x ly lx)) in
      rw (refusal_equivalent size 0 p q, places)

  -- which plane comes first
  pub located_exchanged : (a b : Plane) → located_of (planes_of size a b) ≡ located_of (planes_of size b a)
  unfolding located_of
  located_exchanged a b =
      let places : first_difference (planes_of size a b) ≡ first_difference (planes_of size b a) =
      down_ext _ _ size.width size.height (λ y x ly lx. ap not (eqb_swap (sample_at a y x) (sample_at b y x))) in
      rw (refusal_exchanged size a b 0, places)

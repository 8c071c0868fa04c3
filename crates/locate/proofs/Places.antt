-- The first place found stays the first. Assumes nothing.
use mathlib.Core.Path.{◌≡◌, refl, sym, ◌∙◌}
use mathlib.Core.Bool.{Bool, true, false, not, ◌&&◌}
use mathlib.Core.List.{List, map}
use Rattle.std.proofs.lemmas.List.{length-map}
use Rattle.plane.specs.declared.Pair as two
use Rattle.plane.specs.Inner.Seen.{planes, row_in}
use Prim.Native.Nat.{ℕ, zero, suc, ◌+◌, ◌-◌, ◌*◌, ◌≤◌, ◌<◌}
use native.Mathlib.Nat.{add-suc, add-zero}
use native.Mathlib.Numerals.{add-one}
use native.Mathlib.Omega.{arith}
use borrow.Author.Tests.{eq-eqb, ne_eqb, eqb-true}
use lib.Dec.{eqb}
use lib.ListN.{length, get_or}
use Rattle.std.specs.Prelude.{None, Some}
use Rattle.plane.specs.Plane.{Planes, at, sample_at}
use Rattle.plane.proofs.All.{all_none, all_more, all_at, at_value}
use Rattle.plane.proofs.Rows.{row_inside, row_length, row_at}
use Rattle.psnr.specs.Inner.Walk.{Walkable}
use Rattle.locate.specs.Where.{place, differ_at, along_to, down_to, first_difference}
use Rattle.locate.specs.Inner.Walk.{alike_to}

-- ---- counted up, one column and one row more
module _ (f : ℕ → ℕ → Bool) where
  pub along_none : (y : ℕ) → along_to f y 0 ≡ None
  unfolding along_to
  along_none y = refl

  along_more : (y x : ℕ) → along_to f y x ≡ None → f y x ≡ false → along_to f y (x + 1) ≡ None
  unfolding along_to
  along_more y x e g = rw (add-one, e, g)

  pub down_none : (width : ℕ) → down_to f width 0 ≡ None
  unfolding down_to
  down_none width = refl

  pub down_more : (width y : ℕ) → down_to f width y ≡ None → along_to f y width ≡ None → down_to f width (y + 1) ≡ None
  unfolding down_to
  down_more width y e g = rw (add-one, e, g)

  -- f holds nowhere in a row
  pub along_quiet : (y n : ℕ) → ((x : ℕ) → x < n → f y x ≡ false) → along_to f y n ≡ None
  unfolding along_to
  along_quiet y zero h = refl
  along_quiet y (suc n) h = rw (along_quiet y n (λ x l. h x (omega arith)), h n (omega arith))

  -- ---- once found, the place stays
  along_after : (y x d : ℕ) → along_to f y x ≡ None → f y x ≡ true → along_to f y (x + 1 + d) ≡ Some (place y x)
  unfolding along_to
  along_after y x zero e g = rw (add-zero, add-one, e, g)
  along_after y x (suc d) e g = rw (add-suc, along_after y x d e g)

  down_after : (width y x d : ℕ) → down_to f width y ≡ None → along_to f y width ≡ Some (place y x) → down_to f width (y + 1 + d) ≡ Some (place y x)
  unfolding down_to
  down_after width y x zero e g = rw (add-zero, add-one, e, g)
  down_after width y x (suc d) e g = rw (add-suc, down_after width y x d e g)

  pub found : (width height y x : ℕ) → down_to f width y ≡ None → along_to f y x ≡ None → f y x ≡ true → x < width → y < height
      → down_to f width height ≡ Some (place y x)
  found width height y x e g h lx ly =
      let p : x + 1 + (width - (x + 1)) ≡ width = omega arith in
      let q : y + 1 + (height - (y + 1)) ≡ height = omega arith in
      rw q at (down_after width y x (height - (y + 1)) e (rw p at (along_after y x (width - (x + 1)) g h)))

-- ---- what one comparison says
pub same : (m n : ℕ) → m ≡ n → not (eqb m n) ≡ false
same m n e = rw (eq-eqb m n e)

pub unlike : (m n : ℕ) → (m ≡ n → ⊥) → not (eqb m n) ≡ true
unlike m n h = rw (ne_eqb m n h)

-- ---- two rows
module _ (a b : List ℕ) where
  pub alike_none : alike_to a b 0 ≡ true
  unfolding alike_to
  alike_none = all_none _

  alike_more : (x : ℕ) → alike_to a b (x + 1) ≡ (alike_to a b x && eqb (at a x) (at b x))
  unfolding alike_to
  alike_more x = all_more _ x

  -- one place more
  pub alike_next : (x : ℕ) {ok : Bool} {m n : ℕ} → ok ≡ alike_to a b x → m ≡ at a x → n ≡ at b x → (ok && eqb m n) ≡ alike_to a b (x + 1)
  alike_next x e f g = rw (alike_more x, e, f, g)

pub ruleset alike_steps = (alike_none, alike_next)

-- and as rows of two planes
module _ {S : Type 0} (value : S → ℕ) (wide : Bool) (c : two.Pair S) (w : Walkable (planes value wide c)) (y : ℕ) (l : y < c.format.height) where
  abbrev p : Planes
  p = planes value wide c

  abbrev width : ℕ
  width = c.format.width

  abbrev pub first_row : List S
  first_row = row_in c.a.samples.now c.a.stride width y

  abbrev pub second_row : List S
  second_row = row_in c.b.samples.now c.b.stride width y

  -- each ends inside its plane
  pub first_inside : y * c.a.stride + width ≤ length c.a.samples.now
  first_inside = row_inside width c.a.stride (rw length-map at w.bounded.first.long) l

  pub second_inside : y * c.b.stride + width ≤ length c.b.samples.now
  second_inside = row_inside width c.b.stride (rw length-map at w.bounded.second.long) l

  pub first_long : length first_row ≡ width
  first_long = row_length value c.a.samples.now c.a.stride width y first_inside

  second_long : length second_row ≡ width
  second_long = row_length value c.b.samples.now c.b.stride width y second_inside

  pub first_at : (x : ℕ) → x < width → at (map value first_row) x ≡ sample_at p.a y x
  first_at = row_at value c.a.samples.now c.a.stride width y first_inside

  pub second_at : (x : ℕ) → x < width → at (map value second_row) x ≡ sample_at p.b y x
  second_at = row_at value c.b.samples.now c.b.stride width y second_inside

  module _ {a b : List S} (ea : a ≡ first_row) (eb : b ≡ second_row) where
    pub rows_long : length a ≡ length b
    rows_long = rw (ea, eb) (first_long ∙ sym second_long)

    -- where they agree, the row is passed over
    pub row_alike : {ok : Bool} → ok ≡ alike_to (map value a) (map value b) (length a) → ok ≡ true → along_to (differ_at p) y width ≡ None
    unfolding alike_to
    row_alike e t =
        let same_at = rw (ea, eb) at (all_at _ _ (sym e ∙ t)) in
        along_quiet (differ_at p) y width
        (λ x k. same _ _ (sym (first_at x k) ∙ eqb-true _ _ (same_at x (rw first_long k)) ∙ second_at x k))

    -- what one comparison in them says
    module _ (x : ℕ) (k : x < width) {s t : S} (es : s ≡ get_or a x s) (et : t ≡ get_or b x t) {m n : ℕ} (em : m ≡ value s) (en : n ≡ value t) where
      first_is : m ≡ sample_at p.a y x
      first_is = em ∙ sym (at_value value a x es (rw (ea, first_long) k)) ∙ rw ea (first_at x k)

      second_is : n ≡ sample_at p.b y x
      second_is = en ∙ sym (at_value value b x et (rw (eb, second_long) k)) ∙ rw eb (second_at x k)

      -- where they agree, the walk goes on
      pub one_alike : m ≡ n → along_to (differ_at p) y x ≡ None → along_to (differ_at p) y (x + 1) ≡ None
      one_alike e before = along_more (differ_at p) y x before (same _ _ (sym first_is ∙ e ∙ second_is))

      -- where they do not, the place is found
      pub one_apart : (m ≡ n → ⊥) → along_to (differ_at p) y x ≡ None → down_to (differ_at p) width y ≡ None
          → Some (place y x) ≡ first_difference p
      one_apart h before above =
          let apart = unlike _ _ (λ e. h (first_is ∙ e ∙ sym second_is)) in
          sym (found (differ_at p) width c.format.height y x above before apart k l)

-- the walk to the first place
pub ruleset first_steps =
    (first_inside, second_inside, rows_long, along_none, down_none, down_more, row_alike, one_alike, one_apart)

-- What a walk over two planes finds, row by row, and what that says of the whole. Assumes nothing.
use Rattle.std.proofs.Common.{◌≡◌, ℕ, ◌+◌, ◌*◌, ◌<◌, ◌≤◌, Bool, true, false, ◌&&◌, List, length, map, sym, refl, ◌∙◌, ap₂, true≢false, le_trans}
use Rattle.refusal.proofs.Chain.{and_left, and_right}
use Rattle.plane.specs.declared.Pair as two
use Rattle.plane.specs.Plane.{Size, Plane, Planes, max_of, sample_limit, all_to}
use Rattle.plane.specs.Tests.{row_suits, samples_suit}
use Rattle.plane.specs.Inner.Unread.{unread_refusal}
use Rattle.plane.proofs.All.{all_none, all_more, all_at, none_at, none_ext}
use Rattle.plane.proofs.Depth.{depth_says, max_grows}
use Rattle.plane.proofs.Limits.{deepest}
use Rattle.plane.specs.Inner.Seen.{planes, row_in}
use Rattle.plane.proofs.Rows.{row_inside, row_length, row_at}
use Rattle.plane.specs.Limits.{side_limit, most_depth}
use Rattle.std.proofs.lemmas.List.{length-map}
use Rattle.plane.proofs.Sums.{sum_ext}
use Rattle.plane.proofs.Unread.{unread_says, unread_depth}
use Rattle.std.specs.Prelude.{Result, Ok, Err}
use Rattle.refusal.specs.declared.Refusal.{Refusal}
use Rattle.refusal.specs.declared.Refusal.TheVariants as no
use Rattle.psnr.specs.Limits.{total_limit}
use Rattle.psnr.specs.Squared.{square_of, row_error, error_to, squared_error_score}
use Rattle.psnr.specs.Inner.Walk.{Readable, squares_in, walked_if, row_walked, walked_at, walked_of}
use Rattle.psnr.proofs.Squares.{SmallRow, error_more, total_below}
use Rattle.psnr.proofs.Parts.{found_above, found_sum}

-- ---- what was found, as facts
sum_says : {sum : ℕ} (suit : Bool) (whole : ℕ) → Ok sum ≡ walked_if suit whole → (suit ≡ true) × (whole ≡ sum)
sum_says true whole e = (refl, cc)
sum_says false whole e = (cc, cc)

above_says : {r : Refusal} (suit : Bool) (whole : ℕ) → Err r ≡ walked_if suit whole → (suit ≡ false) × (r ≡ no.Sample)
above_says true whole e = (cc, cc)
above_says false whole e = (refl, cc)

-- ---- planes that none of 1 to 5 refuses can be read
pub readable : (p : Planes) (least : ℕ) → unread_refusal p least ≡ Ok tt → Readable p
readable p least e =
    let says = unread_says p least e in
    record {
      depth_suits_lem = unread_depth p least e;
      width_most = says.0.width_most;
      height_most = says.0.height_most;
      first_long = says.1.0;
      second_long = says.1.1;
    }

-- ---- a row of each plane as a part of a slice
module _ {S : Type 0} (value : S → ℕ) (wide : Bool) (p : two.Pair S) (y : ℕ) where
  abbrev width : ℕ
  width = p.format.width

  abbrev first : List S
  first = row_in p.a.samples.now p.a.stride width y

  abbrev second : List S
  second = row_in p.b.samples.now p.b.stride width y

  module _ (r : Readable (planes value wide p)) (l : y < p.format.height) where
    pub first_inside : y * p.a.stride + width ≤ length p.a.samples.now
    first_inside = row_inside width p.a.stride (rw length-map at r.first_long) l

    pub second_inside : y * p.b.stride + width ≤ length p.b.samples.now
    second_inside = row_inside width p.b.stride (rw length-map at r.second_long) l

    -- they may be walked
    pub row_may : (length first ≡ length second) × (length first ≤ side_limit) × (p.format.depth ≤ most_depth wide)
    row_may =
        let one = row_length value p.a.samples.now p.a.stride width y first_inside in
        let other = row_length value p.b.samples.now p.b.stride width y second_inside in
        (one ∙ sym other, rw one r.width_most, (depth_says wide p.format.depth r.depth_suits_lem).1)

    -- and what is found in them is what is found in row y
    row_walked_lem : row_walked p.format.depth (map value first) (map value second) (length first) ≡ walked_at (planes value wide p) y
    unfolding row_walked walked_at row_suits row_error squares_in
    row_walked_lem =
        let top = max_of p.format.depth in
        let one = row_at value p.a.samples.now p.a.stride width y first_inside in
        let other = row_at value p.b.samples.now p.b.stride width y second_inside in
        rw (row_length value p.a.samples.now p.a.stride width y first_inside)
        (ap₂ walked_if (ap₂ ◌&&◌ (none_ext top _ _ width one) (none_ext top _ _ width other))
        (sum_ext _ _ width (λ x l. ap₂ square_of (one x l) (other x l))))

    pub row_found : {f s : List S} {found : Result ℕ Refusal} → f ≡ first → s ≡ second
        → found ≡ row_walked p.format.depth (map value f) (map value s) (length f) → found ≡ walked_at (planes value wide p) y
    row_found ef es e = (rw (ef, es) at e) ∙ row_walked_lem

module _ (p : Planes) where
  abbrev size : Size
  size = p.size

  abbrev max : ℕ
  max = max_of size.depth

  -- ---- row after row
  -- no sample of row y is above sample_max, and none of the first n rows
  abbrev suit_at : ℕ → Bool
  suit_at y = row_suits max size.width p.a y && row_suits max size.width p.b y

  abbrev pub suit_to : ℕ → Bool
  suit_to n = all_to (row_suits max size.width p.a) n && all_to (row_suits max size.width p.b) n

  pub suit_none : suit_to 0 ≡ true
  suit_none = rw (all_none (row_suits max size.width p.a), all_none (row_suits max size.width p.b))

  -- both rows y suit, and all before
  suit_more : (y : ℕ) → suit_to y ≡ true → suit_at y ≡ true → suit_to (y + 1) ≡ true
  suit_more y s r =
      let a = row_suits max size.width p.a in
      let b = row_suits max size.width p.b in
      rw (
        all_more a y,
        all_more b y,
        and_left (all_to a y) _ s,
        and_right (all_to a y) (all_to b y) s,
        and_left (a y) _ r,
        and_right (a y) (b y) r,
      )

  suit_at_lem : (n : ℕ) → suit_to n ≡ true → (y : ℕ) → y < n → suit_at y ≡ true
  suit_at_lem n s y l =
      let a = row_suits max size.width p.a in
      rw (all_at a n (and_left _ _ s) y l, all_at (row_suits max size.width p.b) n (and_right (all_to a n) _ s) y l)

  pub row_adds : (y : ℕ) {sum error : ℕ} → sum ≡ error_to p y → suit_to y ≡ true → Ok error ≡ walked_at p y
      → (sum + error ≡ error_to p (y + 1)) × (suit_to (y + 1) ≡ true)
  unfolding walked_at
  row_adds y {sum} {error} e s w =
      let says = sum_says _ (row_error p size.width y) w in
      (ap₂ (λ (t u : ℕ). t + u) e (sym says.1) ∙ sym (error_more p y), suit_more y s says.0)

  pub row_breaks : (y : ℕ) {r : Refusal} → y < size.height → Err r ≡ walked_at p y → Err r ≡ walked_of p
  unfolding walked_at walked_of samples_suit
  row_breaks y l w =
      let says = above_says _ _ w in
      rw says.1 (found_above _ _ (λ s. true≢false (sym (suit_at_lem size.height s y l) ∙ says.0)))

  pub rows_end : {sum : ℕ} → sum ≡ error_to p size.height → suit_to size.height ≡ true → Ok sum ≡ walked_of p
  unfolding walked_of samples_suit
  rows_end e s = found_sum s e

  -- ---- the sum has room
  row_small : Readable p → (q : Plane) (n : ℕ) → all_to (row_suits max size.width q) n ≡ true
      → (y : ℕ) → y < n → SmallRow sample_limit size.width q y
  unfolding row_suits
  row_small r q n s y l x k =
      let depth = le_trans (depth_says size.wide size.depth r.depth_suits_lem).1 (deepest size.wide) in
      le_trans (none_at max _ size.width (all_at _ n s y l) x k) (max_grows depth)

  pub rows_below : Readable p → (y : ℕ) → y ≤ size.height → suit_to y ≡ true → error_to p y < total_limit
  rows_below r y l s =
      total_below p y r.width_most (le_trans l r.height_most) (row_small r p.a y (and_left _ _ s))
      (row_small r p.b y (and_right (all_to (row_suits max size.width p.a) y) _ s))

  -- ---- the whole
  pub whole_says : {error : ℕ} → Ok error ≡ walked_of p → ((samples_suit size p.a && samples_suit size p.b) ≡ true) × (squared_error_score p ≡ error)
  unfolding walked_of
  whole_says w = sum_says _ _ w

  pub whole_breaks : {r : Refusal} → Err r ≡ walked_of p → ((samples_suit size p.a && samples_suit size p.b) ≡ false) × (r ≡ no.Sample)
  unfolding walked_of
  whole_breaks w = above_says _ _ w

-- How far a list of steps can carry eight numbers. Each rounding leaves a rest of known size. So after any steps a place, times a common
-- denominator, is a sum of multiples of the eight numbers and of the rests. The multiples are computed; this file shows that they bound the
-- place. Assumes nothing.
use mathlib.Core.Path.{◌≡◌, refl, sym, ap, ap₂, ◌∙◌, subst}
use mathlib.Core.List.{List, [], ◌∷◌, ◌++◌}
use Prim.Native.Nat.{ℕ, zero, suc, ◌+◌, ◌-◌, ◌*◌, ◌/◌, ◌%◌, ◌^◌, ◌≤◌, ◌<◌, zero-le, max}
use native.Mathlib.Nat.{le_trans, le-max_left, le-max_right, mul-le-mul_left, mul_comm, mul-suc, mul-pos, le-div_iff_mul-le, div-add-mod, mod-lt, pow-suc}
use native.Mathlib.Numerals.{sub-one}
use native.Mathlib.Omega.{arith}
use lib.Dec.{ltb, ltb→lt, lit≤}
use lib.Pow.{pow_pos}
use lib.IntN.{ℤ, pos, negsuc, neg_ℤ, nat_abs, ◌+ℤ◌, ◌-ℤ◌, ◌*ℤ◌, +ℤ_assoc, +ℤ_comm, +ℤ_idl, +ℤ_idr, +ℤ-neg_ℤ_cancel, zero-*ℤ, *ℤ-zero, *ℤ_comm, neg_ℤ-+ℤ}
use lib.ListN.{length, get_or, set, take, drop, replicate}
use lib.Signed.{shr_z}
use borrow.Author.Tests.{lt-ltb}
use Rattle.lifting.specs.Inner.Operation.{run_limit}
use Rattle.lifting.specs.Inner.Within.{AllWithin}
use Rattle.lifting.specs.Steps.{Of, whole, halved, times, of, half, part, Step, plus, less, from, step, run, steps, steps1, steps2, steps3, steps4, steps5}
use Rattle.lifting.proofs.Size.{cond_ind, size_add, size_mul, size_neg}
use Rattle.lifting.proofs.Ring.{exchange, plus_times, times_plus, neg_times, times_neg, times_assoc, times_swap}

-- ---- sums of multiples

dot : List ℤ → List ℤ → ℤ
dot [] x = pos 0
dot (a ∷ c) [] = pos 0
dot (a ∷ c) (b ∷ x) = a *ℤ b +ℤ dot c x

scale : ℤ → List ℤ → List ℤ
scale k [] = []
scale k (a ∷ c) = (k *ℤ a) ∷ scale k c

join : List ℤ → List ℤ → List ℤ
join [] d = d
join (a ∷ c) [] = a ∷ c
join (a ∷ c) (b ∷ d) = (a +ℤ b) ∷ join c d

dot_scale : (k : ℤ) (c x : List ℤ) → dot (scale k c) x ≡ k *ℤ dot c x
unfolding dot scale
dot_scale k [] x = sym (*ℤ-zero k)
dot_scale k (a ∷ c) [] = sym (*ℤ-zero k)
dot_scale k (a ∷ c) (b ∷ x) = ap₂ (λ (p q : ℤ). p +ℤ q) (times_assoc a b k) (dot_scale k c x) ∙ sym (times_plus k (a *ℤ b) (dot c x))

dot_join : (c d x : List ℤ) → dot (join c d) x ≡ dot c x +ℤ dot d x
unfolding dot join
dot_join [] d x = sym (+ℤ_idl (dot d x))
dot_join (a ∷ c) [] x = sym (+ℤ_idr (dot (a ∷ c) x))
dot_join (a ∷ c) (b ∷ d) [] = refl
dot_join (a ∷ c) (b ∷ d) (y ∷ x) =
    ap₂ (λ (p q : ℤ). p +ℤ q) (plus_times b y a) (dot_join c d x) ∙ exchange (a *ℤ y) (b *ℤ y) (dot c x) (dot d x)

-- the size of each number of x is at most that of gs
abbrev pub Under : List ℕ → List ℤ → Type 0
Under gs [] = Unit {0}
Under [] (a ∷ x) = ⊥
Under (g ∷ gs) (a ∷ x) = (nat_abs a ≤ g) × Under gs x

weigh : List ℕ → List ℤ → ℕ
weigh gs [] = 0
weigh [] (a ∷ c) = 0
weigh (g ∷ gs) (a ∷ c) = nat_abs a * g + weigh gs c

dot_size : (gs : List ℕ) (c x : List ℤ) → Under gs x → nat_abs (dot c x) ≤ weigh gs c
unfolding dot weigh
dot_size gs [] x h = zero-le
dot_size gs (a ∷ c) [] h = zero-le
dot_size [] (a ∷ c) (b ∷ x) h = absurd h
dot_size (g ∷ gs) (a ∷ c) (b ∷ x) h =
    let p : nat_abs a * nat_abs b ≤ nat_abs a * g = mul-le-mul_left (nat_abs a) h.0 in
    omega (arith, size_add (a *ℤ b) (dot c x), size_mul a b, dot_size gs c x h.1)

-- ---- what a step takes: m times it is b times the place, up to g

moved : (a b c : ℤ) → a +ℤ b ≡ c → a ≡ c -ℤ b
moved a b c h = sym (+ℤ-neg_ℤ_cancel a b) ∙ ap (λ (z : ℤ). z -ℤ b) h

record Took (m b g : ℕ) (a t : ℤ) : Type 0 where
  rest : ℤ
  eq : pos m *ℤ t ≡ pos b *ℤ a +ℤ rest
  size : nat_abs rest ≤ g

took_half_pos : (n : ℕ) → Took 2 1 1 (pos n) (half (pos n))
unfolding half
took_half_pos n = record {
  rest = neg_ℤ (pos (n % 2));
  eq = moved (pos (2 * (n / 2))) (pos (n % 2)) (pos (1 * n)) (ap pos (let q : 2 * (n / 2) + n % 2 ≡ 1 * n = omega arith in q));
  size = rw (size_neg (pos (n % 2))) (omega arith);
}

took_half : (a : ℤ) → Took 2 1 1 a (half a)
unfolding half
took_half (pos n) = took_half_pos n
took_half (negsuc n) =
    let t = took_half_pos (suc n) in
    record {
      rest = neg_ℤ t.rest;
      eq =
          times_neg (pos 2) (half (pos (suc n))) ∙ ap neg_ℤ t.eq ∙ neg_ℤ-+ℤ (pos 1 *ℤ pos (suc n)) t.rest
          ∙ ap (λ (z : ℤ). z +ℤ neg_ℤ t.rest) (sym (times_neg (pos 1) (pos (suc n))));
      size = rw (size_neg t.rest) t.size;
    }

-- what a shift leaves behind
record Left (m : ℕ) (y : ℤ) : Type 0 where
  by : ℕ
  low : by < m
  eq : pos m *ℤ shr_z y m +ℤ pos by ≡ y

negative : (k r : ℕ) → r < k → neg_ℤ (pos k) +ℤ pos r ≡ negsuc (k - suc r)
negative zero r h = absurd (omega arith)
negative (suc k) r h = rw (lt-ltb r (suc k) h)

left : (m : ℕ) (y : ℤ) → 0 < m → Left m y
left m (pos y) h = record {
  by = y % m;
  low = mod-lt y h;
  eq = ap pos (div-add-mod y m);
}
left m (negsuc y) h =
    let l : y % m < m = mod-lt y h in
    let e : m * (y / m) + y % m ≡ y = div-add-mod y m in
    let s : m * suc (y / m) ≡ m * (y / m) + m = mul-suc m (y / m) in
    record {
      by = m - suc (y % m);
      low = omega arith;
      eq = negative (m * suc (y / m)) (m - suc (y % m)) (omega arith) ∙ ap negsuc (let q : m * suc (y / m) - suc (m - suc (y % m)) ≡ y = omega arith in q);
    }

near : (h r : ℕ) → r ≤ h + h → nat_abs (pos h -ℤ pos r) ≤ h
near h zero l = omega arith
near h (suc r) l = cond_ind (ltb h (suc r)) (negsuc (suc r - suc h)) (pos (h - suc r)) (λ z. nat_abs z ≤ h)
    (λ t. let q : h < suc r = ltb→lt h (suc r) t in omega arith) (λ t. omega arith)

doubled : (s : ℕ) → 2 ^ s ≤ 2 ^ (s - 1) + 2 ^ (s - 1)
doubled zero = lit≤ tt
doubled (suc n) = rw (sub-one (suc n)) (omega (arith, pow-suc 2 n))

took_part : (b s : ℕ) (a : ℤ) → Took (2 ^ s) b (2 ^ (s - 1)) a (part a (pos b) s)
unfolding part
took_part b s a =
    let h = 2 ^ (s - 1) in
    let y = a *ℤ pos b +ℤ pos h in
    let l = left (2 ^ s) y (pow_pos s) in
    record {
      rest = pos h -ℤ pos l.by;
      eq =
          moved (pos (2 ^ s) *ℤ shr_z y (2 ^ s)) (pos l.by) y l.eq ∙ +ℤ_assoc (a *ℤ pos b) (pos h) (neg_ℤ (pos l.by))
          ∙ ap (λ (z : ℤ). z +ℤ (pos h -ℤ pos l.by)) (*ℤ_comm a (pos b));
      size = near h l.by (omega (arith, doubled s, l.low));
    }

pub den : Of → ℕ
den whole = 1
den halved = 2
den (times b s) = 2 ^ s

pub num : Of → ℕ
num whole = 1
num halved = 1
num (times b s) = b

pub slack : Of → ℕ
slack whole = 0
slack halved = 1
slack (times b s) = 2 ^ (s - 1)

took : (f : Of) (a : ℤ) → Took (den f) (num f) (slack f) a (of f a)
unfolding den num slack
took whole a = record { rest = pos 0; eq = sym (+ℤ_idr (pos 1 *ℤ a)); size = zero-le }
took halved a = took_half a
took (times b s) a = took_part b s a

-- ---- a step

-- m times v is u times a, w times b and a rest
record Lifted (m : ℕ) (u w : ℤ) (g : ℕ) (a b v : ℤ) : Type 0 where
  rest : ℤ
  eq : pos m *ℤ v ≡ (u *ℤ a +ℤ w *ℤ b) +ℤ rest
  size : nat_abs rest ≤ g

sum : (m b g : ℕ) (a c t : ℤ) → Took m b g c t → Lifted m (pos m) (pos b) g a c (a +ℤ t)
sum m b g a c t k = record {
  rest = k.rest;
  eq =
      times_plus (pos m) a t ∙ ap (λ (z : ℤ). pos m *ℤ a +ℤ z) k.eq ∙ sym (+ℤ_assoc (pos m *ℤ a) (pos b *ℤ c) k.rest);
  size = k.size;
}

difference : (m b g : ℕ) (a c t : ℤ) → Took m b g c t → Lifted m (pos m) (neg_ℤ (pos b)) g a c (a -ℤ t)
difference m b g a c t k = record {
  rest = neg_ℤ k.rest;
  eq =
      times_plus (pos m) a (neg_ℤ t)
      ∙ ap (λ (z : ℤ). pos m *ℤ a +ℤ z)
      (times_neg (pos m) t ∙ ap neg_ℤ k.eq ∙ neg_ℤ-+ℤ (pos b *ℤ c) k.rest ∙ ap (λ (z : ℤ). z +ℤ neg_ℤ k.rest) (sym (neg_times (pos b) c)))
      ∙ sym (+ℤ_assoc (pos m *ℤ a) (neg_ℤ (pos b) *ℤ c) (neg_ℤ k.rest));
  size = rw (size_neg k.rest) k.size;
}

contrary : (m b g : ℕ) (a c t : ℤ) → Took m b g c t → Lifted m (neg_ℤ (pos m)) (pos b) g a c (t -ℤ a)
contrary m b g a c t k = record {
  rest = k.rest;
  eq =
      ap (λ (z : ℤ). pos m *ℤ z) (+ℤ_comm t (neg_ℤ a)) ∙ times_plus (pos m) (neg_ℤ a) t
      ∙ ap₂ (λ (y z : ℤ). y +ℤ z) (times_neg (pos m) a ∙ sym (neg_times (pos m) a)) k.eq
      ∙ sym (+ℤ_assoc (neg_ℤ (pos m) *ℤ a) (pos b *ℤ c) k.rest);
  size = k.size;
}

-- ---- one place: d times v is the sum of the multiples c of x

Form : ℕ → List ℤ → List ℤ → ℤ → Type 0
Form d c x v = pos d *ℤ v ≡ dot c x

-- with a rest e more, of which v has nothing
form_stretch : (m d : ℕ) (e : ℤ) (c x : List ℤ) (v : ℤ) → Form d c x v → Form (m * d) (pos 0 ∷ scale (pos m) c) (e ∷ x) v
unfolding Form dot
form_stretch m d e c x v f =
    times_assoc (pos d) v (pos m) ∙ ap (λ (z : ℤ). pos m *ℤ z) f ∙ sym (dot_scale (pos m) c x) ∙ sym (+ℤ_idl (dot (scale (pos m) c) x))
    ∙ ap (λ (z : ℤ). z +ℤ dot (scale (pos m) c) x) (sym (zero-*ℤ e))

-- with a rest e more, of which v has d
form_mix : (m d : ℕ) (u w : ℤ) (r s x : List ℤ) (a b e v : ℤ) → Form d r x a → Form d s x b → pos m *ℤ v ≡ (u *ℤ a +ℤ w *ℤ b) +ℤ e
    → Form (m * d) (pos d ∷ join (scale u r) (scale w s)) (e ∷ x) v
unfolding Form dot
form_mix m d u w r s x a b e v f h l =
    times_assoc (pos d) v (pos m) ∙ times_swap (pos m) (pos d) v ∙ ap (λ (z : ℤ). pos d *ℤ z) l
    ∙ times_plus (pos d) (u *ℤ a +ℤ w *ℤ b) e ∙ +ℤ_comm (pos d *ℤ (u *ℤ a +ℤ w *ℤ b)) (pos d *ℤ e)
    ∙ ap (λ (z : ℤ). pos d *ℤ e +ℤ z)
    (times_plus (pos d) (u *ℤ a) (w *ℤ b)
    ∙ ap₂ (λ (y z : ℤ). y +ℤ z)
    (times_swap (pos d) u a ∙ ap (λ (z : ℤ). u *ℤ z) f ∙ sym (dot_scale u r x))
    (times_swap (pos d) w b ∙ ap (λ (z : ℤ). w *ℤ z) h ∙ sym (dot_scale w s x))
    ∙ sym (dot_join (scale u r) (scale w s) x))

-- ---- all places

Forms : ℕ → List (List ℤ) → List ℤ → List ℤ → Type 0
Forms d [] x [] = Unit {0}
Forms d [] x (a ∷ v) = ⊥
Forms d (c ∷ cs) x [] = ⊥
Forms d (c ∷ cs) x (a ∷ v) = Form d c x a × Forms d cs x v

forms_at : (d : ℕ) (cs : List (List ℤ)) (x v : List ℤ) (k : ℕ) → Forms d cs x v → Form d (get_or cs k []) x (get_or v k (pos 0))
unfolding Forms Form dot
forms_at d [] x [] k f = *ℤ-zero (pos d)
forms_at d [] x (a ∷ v) k f = absurd f
forms_at d (c ∷ cs) x [] k f = absurd f
forms_at d (c ∷ cs) x (a ∷ v) zero f = f.0
forms_at d (c ∷ cs) x (a ∷ v) (suc k) f = forms_at d cs x v k f.1

stretch : ℕ → List (List ℤ) → List (List ℤ)
stretch m [] = []
stretch m (c ∷ cs) = (pos 0 ∷ scale (pos m) c) ∷ stretch m cs

forms_stretch : (m d : ℕ) (e : ℤ) (cs : List (List ℤ)) (x v : List ℤ) → Forms d cs x v → Forms (m * d) (stretch m cs) (e ∷ x) v
unfolding Forms stretch
forms_stretch m d e [] x [] f = tt
forms_stretch m d e [] x (a ∷ v) f = absurd f
forms_stretch m d e (c ∷ cs) x [] f = absurd f
forms_stretch m d e (c ∷ cs) x (a ∷ v) f = (form_stretch m d e c x a f.0, forms_stretch m d e cs x v f.1)

forms_set : (d : ℕ) (cs : List (List ℤ)) (x v : List ℤ) (i : ℕ) (c : List ℤ) (a : ℤ) → Forms d cs x v → Form d c x a
    → Forms d (set cs i c) x (set v i a)
unfolding Forms
forms_set d [] x [] i c a f h = tt
forms_set d [] x (b ∷ v) i c a f h = absurd f
forms_set d (s ∷ cs) x [] i c a f h = absurd f
forms_set d (s ∷ cs) x (b ∷ v) zero c a f h = (h, f.1)
forms_set d (s ∷ cs) x (b ∷ v) (suc i) c a f h = (f.0, forms_set d cs x v i c a f.1 h)

-- the denominator, the sizes of the numbers and rests, and each place's multiples of them
pub record State : Type 0 where
  pub unit : ℕ
  pub sizes : List ℕ
  pub places : List (List ℤ)

record Holds (s : State) (v : List ℤ) : Type 0 where
  numbers : List ℤ
  under : Under s.sizes numbers
  forms : Forms s.unit s.places numbers v

write : ℕ → ℕ → Of → ℤ → ℤ → State → State
write i j f u w s = record {
  unit = den f * s.unit;
  sizes = slack f ∷ s.sizes;
  places = set (stretch (den f) s.places) i (pos s.unit ∷ join (scale u (get_or s.places i [])) (scale w (get_or s.places j [])));
}

advance : Step → State → State
advance (plus i j f) = write i j f (pos (den f)) (pos (num f))
advance (less i j f) = write i j f (pos (den f)) (neg_ℤ (pos (num f)))
advance (from i j f) = write i j f (neg_ℤ (pos (den f))) (pos (num f))

after : List Step → State → State
after [] s = s
after (t ∷ ts) s = after ts (advance t s)

wrote : (i j : ℕ) (f : Of) (u w : ℤ) (s : State) (v : List ℤ) (a : ℤ) → Holds s v
    → Lifted (den f) u w (slack f) (get_or v i (pos 0)) (get_or v j (pos 0)) a → Holds (write i j f u w s) (set v i a)
unfolding write
wrote i j f u w s v a h l =
    let x = h.numbers in
    let at : (k : ℕ) → Form s.unit (get_or s.places k []) x (get_or v k (pos 0)) = λ k. forms_at s.unit s.places x v k h.forms in
    record {
      numbers = l.rest ∷ x;
      under = (l.size, h.under);
      forms =
          forms_set (den f * s.unit) (stretch (den f) s.places) (l.rest ∷ x) v i _ a
          (forms_stretch (den f) s.unit l.rest s.places x v h.forms)
          (form_mix (den f) s.unit u w _ _ x _ _ l.rest a (at i) (at j) l.eq);
    }

advanced : (t : Step) (s : State) (v : List ℤ) → Holds s v → Holds (advance t s) (step t v)
unfolding advance
advanced (plus i j f) s v h = wrote i j f _ _ s v _ h (sum (den f) (num f) (slack f) _ _ _ (took f (get_or v j (pos 0))))
advanced (less i j f) s v h = wrote i j f _ _ s v _ h (difference (den f) (num f) (slack f) _ _ _ (took f (get_or v j (pos 0))))
advanced (from i j f) s v h = wrote i j f _ _ s v _ h (contrary (den f) (num f) (slack f) _ _ _ (took f (get_or v j (pos 0))))

held : (ts : List Step) (s : State) (v : List ℤ) → Holds s v → Holds (after ts s) (run ts v)
unfolding after
held [] s v h = h
held (t ∷ ts) s v h = held ts (advance t s) (step t v) (advanced t s v h)

den_positive : (f : Of) → 0 < den f
unfolding den
den_positive whole = lit≤ tt
den_positive halved = lit≤ tt
den_positive (times b s) = pow_pos s

positive : (ts : List Step) (s : State) → 0 < s.unit → 0 < (after ts s).unit
unfolding after advance write
positive [] s h = h
positive (plus i j f ∷ ts) s h = positive ts (advance (plus i j f) s) (mul-pos (den_positive f) h)
positive (less i j f ∷ ts) s h = positive ts (advance (less i j f) s) (mul-pos (den_positive f) h)
positive (from i j f ∷ ts) s h = positive ts (advance (from i j f) s) (mul-pos (den_positive f) h)

-- ---- the sizes

form_size : (d : ℕ) (gs : List ℕ) (c x : List ℤ) (v : ℤ) → 0 < d → Under gs x → Form d c x v → nat_abs v ≤ weigh gs c / d
unfolding Form
form_size d gs c x v p h f =
    let e : nat_abs v * d ≡ nat_abs (dot c x) = mul_comm (nat_abs v) d ∙ sym (size_mul (pos d) v) ∙ ap nat_abs f in
    (le-div_iff_mul-le p).1 (omega (arith, dot_size gs c x h))

sizes_of : List ℕ → ℕ → List (List ℤ) → List ℕ
sizes_of gs d [] = []
sizes_of gs d (c ∷ cs) = weigh gs c / d ∷ sizes_of gs d cs

forms_size : (d : ℕ) (gs : List ℕ) (cs : List (List ℤ)) (x v : List ℤ) → 0 < d → Under gs x → Forms d cs x v → Under (sizes_of gs d cs) v
unfolding sizes_of Forms
forms_size d gs [] x [] p h f = tt
forms_size d gs [] x (a ∷ v) p h f = absurd f
forms_size d gs (c ∷ cs) x [] p h f = absurd f
forms_size d gs (c ∷ cs) x (a ∷ v) p h f = (form_size d gs c x a p h f.0, forms_size d gs cs x v p h f.1)

-- before any step each place is the number that it holds
singles : ℕ → List (List ℤ)
singles zero = []
singles (suc k) = (pos 1 ∷ []) ∷ stretch 1 (singles k)

start : ℕ → ℕ → State
start k n = record { unit = 1; sizes = replicate k n; places = singles k }

forms_start : (x : List ℤ) → Forms 1 (singles (length x)) x x
unfolding Forms Form dot singles
forms_start [] = tt
forms_start (a ∷ x) = (sym (+ℤ_idr (pos 1 *ℤ a)), forms_stretch 1 1 a (singles (length x)) x x (forms_start x))

under_start : (n : ℕ) (x : List ℤ) → AllWithin n x → Under (replicate (length x) n) x
under_start n [] h = tt
under_start n (a ∷ x) h = (h.0.le, under_start n x h.1)

-- the largest size that each of k places can have after the steps, if no number's size is above n
pub bounds : ℕ → List Step → ℕ → List ℕ
bounds k ts n = let s = after ts (start k n) in sizes_of s.sizes s.unit s.places

pub bounded : (ts : List Step) (n : ℕ) (x : List ℤ) → AllWithin n x → Under (bounds (length x) ts n) (run ts x)
unfolding bounds start
bounded ts n x h =
    let s = start (length x) n in
    let g = held ts s x (record { numbers = x; under = under_start n x h; forms = forms_start x }) in
    forms_size (after ts s).unit (after ts s).sizes (after ts s).places g.numbers (run ts x) (positive ts s (lit≤ tt)) g.under g.forms

pub sized : (ts : List Step) (n : ℕ) (gs : List ℕ) (x v : List ℤ) → bounds (length x) ts n ≡ gs → v ≡ run ts x → AllWithin n x → Under gs v
sized ts n gs x v e w h =
    subst (λ (l : List ℤ). Under gs l) (sym w) (subst (λ (l : List ℕ). Under l (run ts x)) e (bounded ts n x h))

-- and the largest of them
largest : List ℕ → ℕ
largest [] = 0
largest (g ∷ gs) = max g (largest gs)

under_small : (m : ℕ) (gs : List ℕ) (v : List ℤ) → largest gs ≤ m → Under gs v → AllWithin m v
unfolding largest
under_small m gs [] l h = tt
under_small m [] (a ∷ v) l h = absurd h
under_small m (g ∷ gs) (a ∷ v) l h = (
  record { le = le_trans h.0 (le_trans (le-max_left g (largest gs)) l) },
  under_small m gs v (le_trans (le-max_right g (largest gs)) l) h.1,
)

-- it computes, wherever it is unfolded
unfoldable pub reach : ℕ → List Step → ℕ → ℕ
unfolding largest bounds sizes_of weigh after advance write stretch scale join den num slack start singles
reach k ts n = largest (bounds k ts n)

pub reached : (ts : List Step) (n m : ℕ) (x : List ℤ) → reach (length x) ts n ≤ m → AllWithin n x → AllWithin m (run ts x)
unfolding reach
reached ts n m x l h = under_small m (bounds (length x) ts n) (run ts x) l (bounded ts n x h)

-- within a pass, where a product would else not be known to fit 32 bits
pub pass_sizes :
    (bounds 8 (steps1 ++ steps2) run_limit ≡ 46341 ∷ 46340 ∷ 46341 ∷ 46340 ∷ 46341 ∷ 23170 ∷ 46341 ∷ 23170 ∷ [])
    × (bounds 8 ((steps1 ++ steps2) ++ take 5 steps3) run_limit ≡ 65537 ∷ 46340 ∷ 60548 ∷ 46340 ∷ 65536 ∷ 23170 ∷ 77305 ∷ 23170 ∷ [])
    × (bounds 8 ((((steps1 ++ steps2) ++ take 5 steps3) ++ drop 5 steps3) ++ steps4) run_limit ≡ 65537 ∷ 55939 ∷ 60548 ∷ 55939 ∷ 65536 ∷ 55938 ∷ 60547 ∷ 55938 ∷ [])
unfolding bounds sizes_of weigh after advance write stretch scale join den num slack start singles steps steps1 steps2 steps3 steps4 steps5
pass_sizes = (refl, refl, refl)

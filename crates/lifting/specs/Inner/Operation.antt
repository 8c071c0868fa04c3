-- What the operations of the steps promise each other, the sizes that the steps take, and the eight numbers as a list. Definitions only.
use Rattle.std.specs.Prelude.{◌≡◌, List, [], ◌∷◌, ℕ, ◌-◌, ◌≤◌, ◌^◌, ℤ, pos, negsuc, nat_abs, T, eqb, ltb, leb}
use Rattle.std.specs.Int.{w32}
use Rattle.std.proofs.Common.{to_z, of_z}
use Rattle.lifting.specs.declared.T8.{T8}

-- what the machine reads back from the 32 bits of z: z itself, where z fits
abbrev pub read32 : ℤ → ℤ
read32 z = to_z w32 (of_z w32 z)

-- the answer r is z, it fits, and its size is at most n
pub record Is (z : ℤ) (n : ℕ) (r : ℤ) : Type 0 where
  pub is : read32 r ≡ z
  pub size : nat_abs (read32 r) ≤ n

-- the sizes with which the steps are run: their products then stay within 32 bits
abbrev pub run_limit : ℕ
run_limit = 23170

-- the sizes with which they are undone: their values then stay within 32 bits
abbrev pub undo_limit : ℕ
undo_limit = 16777216

-- h is 2^(s-1)
abbrev pub HalfOf : ℤ → ℕ → Type 0
HalfOf (pos n) s = T (eqb n (2 ^ (s - 1)))
HalfOf (negsuc n) s = ⊥

-- a factor b, the half h and a shift s that [a b s] can be worked out with: at literals it is computed
abbrev pub Factor : ℤ → ℤ → ℕ → Type 0
Factor b h s = T (ltb 0 s) × T (leb s 16) × T (leb (nat_abs b) (2 ^ s)) × HalfOf h s

-- t0 to t7
abbrev pub vals : T8 → List ℤ
vals t = t.t0 ∷ t.t1 ∷ t.t2 ∷ t.t3 ∷ t.t4 ∷ t.t5 ∷ t.t6 ∷ t.t7 ∷ []

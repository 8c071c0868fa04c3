-- `number::near::nearest` meets its contract. Assumes nothing.
use Rattle.std.proofs.Common.{◌≡◌, ℕ, ◌+◌, ◌*◌, ◌%◌, ◌^◌, ◌<◌, ◌≤◌, true, sym, ap, ◌∙◌, mod-eq_of_lt, lt_of_lt_of_le, lit≤, arith}
use Rattle.number.specs.Root.{is_nearest, nearest_root}
use Rattle.number.proofs.Whole.{Scaled, shifted, scaled_lt, passed, defined}
use Rattle.number.proofs.near.nearest.Goals as goal

-- what the contract asks of the digits gives
module _ (m odd : ℕ) (given : (2 ^ 52 ≤ m) × (m < 2 ^ 53) × (odd < 2)) where
  scaled : Scaled (m * 2 ^ (52 + odd))
  scaled = shifted m odd record { from = given.0; upto = given.1; bit = given.2 }

  moved_up : {a : ℕ} → a ≡ m → a * 2 ^ (52 + odd) % 2 ^ 128 ≡ m * 2 ^ (52 + odd)
  moved_up p = rw p (mod-eq_of_lt (lt_of_lt_of_le (scaled_lt _ scaled) (lit≤ tt)))

  -- what passes the test is the answer
  tested : (s : ℕ) → 0 < s → is_nearest (m * 2 ^ (52 + odd)) s ≡ true
      → (s ≡ nearest_root 53 (m * 2 ^ (52 + odd))) × (2 ^ 52 ≤ s) × (s < 2 ^ 53)
  tested s p e = let right = passed _ s scaled p e in (right.is, right.from, right.upto)

pub returns-then-is_nearest : goal.returns-then-is_nearest
returns-then-is_nearest c =
    let passes = rw (moved_up c.args.m c.args.odd c.requires c.from.ensures) at (sym c.is_nearest.ensures ∙ c.if-is_nearest.true) in
    tested c.args.m c.args.odd c.requires _ (omega arith) passes

pub returns-then-is_nearest-2 : goal.returns-then-is_nearest-2
returns-then-is_nearest-2 c =
    let passes = rw (moved_up c.args.m c.args.odd c.requires c.from.ensures) at (sym c.is_nearest-2.ensures ∙ c.if-is_nearest-2.true) in
    tested c.args.m c.args.odd c.requires _ (omega arith) passes

pub searched-requires : goal.searched-requires
searched-requires c =
    rw (moved_up c.args.m c.args.odd c.requires c.from.ensures) (scaled_lt _ (scaled c.args.m c.args.odd c.requires))

pub returns : goal.returns
returns c =
    let d = defined _ (scaled c.args.m c.args.odd c.requires) in
    let e = c.searched.ensures ∙ ap (nearest_root 53) (moved_up c.args.m c.args.odd c.requires c.from.ensures) in
    (e, rw e d.from, rw e d.upto)

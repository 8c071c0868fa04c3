-- A whole number in two words. Definitions only.
use Rattle.std.specs.Prelude.{ℕ, ◌+◌, ◌*◌, ◌^◌}
use Rattle.number.specs.declared.wide.Wide.{Wide}

-- the number that the two words are
unfoldable pub value_of : Wide → ℕ
value_of w = w.hi * 2 ^ 64 + w.lo

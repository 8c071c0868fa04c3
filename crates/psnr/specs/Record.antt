-- SCOPE, "When the desk says no": which record is bad. Each test is true where the record is not bad by it. Definitions only.
use Rattle.std.specs.Prelude.{ℕ, zero, suc, ◌+◌, ◌*◌, Bool, true, false, ◌&&◌, ◌||◌, ◌==◌, nat_eq, nat_le, nat_lt, Float}
use Rattle.std.specs.Float.{binary64}
use Rattle.std.specs.Float.Ieee.{in_unsigned, to_unsigned}
use Rattle.plane.specs.Limits.{most_depth}
use Rattle.plane.specs.Plane.{max_of}
use Rattle.psnr.specs.declared.Record.{Record}
use Rattle.psnr.specs.Limits.{count_limit, most_plane}

-- e is a whole number from 0 to the largest up to which all are doubles; minus zero and not-a-number are none
abbrev pub is_whole : Float → Bool
is_whole e = in_unsigned binary64 64 e

-- which one it is
abbrev pub whole_of : Float → ℕ
whole_of e = to_unsigned 64 e

-- f holds at some index below n
unfoldable pub some_to : (ℕ → Bool) → ℕ → Bool
some_to f zero = false
some_to f (suc n) = some_to f n || f n

-- n is not outside 1 to its limit
unfoldable pub count_suits : ℕ → Bool
count_suits n = nat_le 1 n && nat_le n count_limit

-- max is 2^d - 1 for a d from 1 to the largest depth
unfoldable pub max_suits : ℕ → Bool
max_suits max = some_to (λ (i : ℕ). nat_eq max (max_of (i + 1))) (most_depth true)

-- the squared error is a whole number from 0 to `most`
unfoldable pub error_suits : ℕ → Float → Bool
error_suits most e = is_whole e && nat_le (whole_of e) most

-- the plane's number is 0, 1 or 2
unfoldable pub plane_suits : ℕ → Bool
plane_suits plane = nat_le plane most_plane

-- the record is not bad by itself: its error is at most n × max², which stays below the largest total (`squares_fit`)
unfoldable pub record_suits : Record → Bool
record_suits r =
    count_suits r.n && max_suits r.sample_max && error_suits (r.n * (r.sample_max * r.sample_max)) r.sq_err && plane_suits r.plane

-- nor by a max unlike the first record's
unfoldable pub joins : ℕ → Record → Bool
joins max r = record_suits r && r.sample_max == max

-- a frame and plane come before others: the frame is lower, or it is the same and the plane is lower
unfoldable pub earlier : ℕ → ℕ → ℕ → ℕ → Bool
earlier frame plane next_frame next_plane = nat_lt frame next_frame || (frame == next_frame && nat_lt plane next_plane)

-- the one record's come before the other's
abbrev pub before : Record → Record → Bool
before r s = earlier r.frame r.plane s.frame s.plane

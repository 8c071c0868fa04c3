-- SCOPE, "When the desk says no": the number of each refusal. Definitions only.
use Rattle.std.specs.Prelude.{ℕ}
use Rattle.refusal.specs.declared.Refusal.{Refusal}
use Rattle.refusal.specs.declared.Refusal.TheVariants.{Depth, Size, Side, Stride, Short, Sample, Kernel, Scratch, NotFinite, Record, Total, Value, Weight, Height, State}

abbrev pub number_of : Refusal → ℕ
-- depth doesn't suit the sample width
number_of Depth = 1
-- width or height is 0 or above its limit
number_of Size = 2
-- a side below what the score needs
number_of Side = 3
-- a stride below width or above its limit
number_of Stride = 4
-- a plane too short
number_of Short = 5
-- a visible sample above sample_max
number_of Sample = 6
-- the lent SSIM kernel unlawful
number_of Kernel = 7
-- any lent scratch, or room lent for a map or a kernel, too short
number_of Scratch = 8
-- no other refusal applies and the defined score is infinite or not a number
number_of NotFinite = 9
-- series: none or too many records, or a bad record
number_of Record = 10
-- series: exact total above 2 ^ 53
number_of Total = 11
-- transform: not 64 places in or out, or a value out of range; root: not +0 or positive finite
number_of Value = 12
-- combining: weight outside 0 to 1, or a number not finite
number_of Weight = 13
-- the chart has no kernel for this height
number_of Height = 14
-- rows as they arrive: a state that no begin and feeds could give, rows past the height, or finishing early
number_of State = 15

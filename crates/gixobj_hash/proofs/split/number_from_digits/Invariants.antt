-- The number is that of the consumed digits.
use Rattle.std.proofs.Common.{◌≡◌, ◌<◌, ◌^◌, take}
use Rattle.std.specs.Str.Parse.{digits_value}
use Rattle.gixobj_hash.proofs.split.number_from_digits.Given as goal

abbrev pub invariant-loop-digit : goal.invariant-loop-digit
invariant-loop-digit l = record { spelled : l.number ≡ digits_value 10 (take l.digit-index l.digits); fits : l.number < 2 ^ 64 }

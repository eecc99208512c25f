use Rattle.std.proofs.Common.{◌≡◌, ◌+◌, length}
use Rattle.std.specs.Prelude.{decimal}
use Rattle.gixobj_actor.proofs.date.digits_counted.Given as goal

-- the digits of the remaining number and the counted ones are all digits
abbrev pub invariant-digits : goal.invariant-digits
invariant-digits l = length (decimal l.rest) + l.count ≡ length (decimal l.fn.number) + 1

abbrev pub decreases-digits : goal.decreases-digits
decreases-digits l = l.rest

-- The flag is the test of the consumed digits.
use Rattle.std.proofs.Common.{◌≡◌, take}
use Rattle.std.specs.List.{list_all}
use Rattle.hex.specs.Hex.{is_hex_digit}
use Rattle.gixobj_hash.proofs.parse.are_hex.Given as goal

abbrev pub invariant-loop-digit : goal.invariant-loop-digit
invariant-loop-digit l = l.are ≡ list_all is_hex_digit (take l.digit-index l.content)

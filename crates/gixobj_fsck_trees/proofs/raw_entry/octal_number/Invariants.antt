use Rattle.std.proofs.Common.{◌≡◌, ◌<◌, ◌%◌, drop}
use Rattle.std.specs.Str.Parse.{AllDigits, digits_value, digits_value_after}
use Rattle.gixobj_fsck_trees.proofs.raw_entry.octal_number.Given as goal

-- the number and the remaining digits have the value of all digits, modulo 65536
abbrev pub invariant-loop-digit : goal.invariant-loop-digit
invariant-loop-digit l =
    record {
      small : l.number < 65536;
      octal : AllDigits 8 (drop l.digit-index l.digits);
      same : digits_value_after 8 l.number (drop l.digit-index l.digits) % 65536 ≡ digits_value 8 l.digits % 65536;
    }

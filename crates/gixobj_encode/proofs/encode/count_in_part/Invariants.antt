-- The newlines before the current byte are counted.
use Rattle.std.proofs.Common.{◌≡◌, take}
use Rattle.gixobj_encode.specs.FieldWriting.{newlines}
use Rattle.gixobj_encode.proofs.encode.count_in_part.Given as goal

abbrev pub invariant-loop-byte : goal.invariant-loop-byte
invariant-loop-byte l = l.count ≡ newlines (take l.byte-index l.part)

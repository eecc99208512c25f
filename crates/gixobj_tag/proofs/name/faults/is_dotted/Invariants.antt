-- The name is dotted if and only if the remaining bytes are, after the byte before them.
use Rattle.std.proofs.Common.{◌↔◌, drop}
use Rattle.gixobj_tag.specs.PlainNames.{IsDotted, IsDottedAfter}
use Rattle.gixobj_tag.proofs.name.faults.is_dotted.Given as goal

abbrev pub invariant-loop-byte : goal.invariant-loop-byte
invariant-loop-byte l = IsDotted l.name ↔ IsDottedAfter l.before (drop l.byte-index l.name)

-- The counted newlines and those of the rest are all newlines.
use Rattle.std.proofs.Common.{◌≡◌, ◌+◌, length}
use Rattle.gixobj_encode.specs.FieldWriting.{newlines}
use Rattle.gixobj_encode.proofs.encode.count_newlines.Given as goal

abbrev pub invariant-loop-rest : goal.invariant-loop-rest
invariant-loop-rest l = l.count + newlines l.rest ≡ newlines l.content

abbrev pub decreases-loop-rest : goal.decreases-loop-rest
decreases-loop-rest l = length l.rest

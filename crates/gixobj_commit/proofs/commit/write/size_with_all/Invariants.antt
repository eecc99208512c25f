use Rattle.std.proofs.Common.{◌≡◌, ◌+◌, ◌<◌, ◌^◌, length, take}
use Rattle.std.specs.List.{flat_map}
use Rattle.gixobj_commit.proofs.commit.write.size_with_all.Given as goal

abbrev pub invariant-loop-field : goal.invariant-loop-field
invariant-loop-field g l = (l.size ≡ l.fn.size + length (flat_map g.T.Field.written (take l.field-index l.fields))) × (l.size < 2 ^ 64)

use Rattle.std.proofs.Common.{◌≡◌, true, take}
use Rattle.std.specs.List.{list_all}
use Rattle.gixobj_fsck.specs.Spans.{is_of_class}
use Rattle.gixobj_fsck.proofs.spans.split_span.Given as goal

abbrev pub invariant-loop-index : goal.invariant-loop-index
invariant-loop-index l = list_all (is_of_class l.class) (take l.index l.input) ≡ true

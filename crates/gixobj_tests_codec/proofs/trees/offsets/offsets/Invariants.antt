use Rattle.gixobj_codec.specs.EntrySteps.{IsTail, remaining_tree_bytes}
use Rattle.gixobj_tests_codec.proofs.trees.offsets.offsets.Given as goal

-- the remaining bytes of the reader are a suffix of the input
abbrev pub invariant-loop-seen : goal.invariant-loop-seen
invariant-loop-seen l = IsTail l.fn.input (remaining_tree_bytes l.seen)

use Rattle.gixobj_codec.specs.EntrySteps.{IsTail, remaining_tree_bytes}
use Rattle.gixobj_tests_replay.proofs.trees.tree_token_answer.Given as goal

-- the remaining bytes of the iterator are a suffix of the input
abbrev pub invariant-loop-entry : goal.invariant-loop-entry
invariant-loop-entry l = IsTail l.content (remaining_tree_bytes l.seen)

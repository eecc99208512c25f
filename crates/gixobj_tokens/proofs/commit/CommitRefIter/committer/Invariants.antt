use Rattle.gixobj_tokens.proofs.CommitRuns.{Searches}
use Rattle.gixobj_tokens.specs.TokenSearch.{IsCommitterToken}
use Rattle.gixobj_tokens.proofs.commit.CommitRefIter.committer.Given as goal

abbrev pub invariant-loop-item : goal.invariant-loop-item
invariant-loop-item l = Searches IsCommitterToken l.fn.self l.item-iterator

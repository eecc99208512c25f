use Rattle.gixobj_tokens.proofs.CommitRuns.{Searches}
use Rattle.gixobj_tokens.specs.TokenSearch.{IsAuthorToken}
use Rattle.gixobj_tokens.proofs.commit.CommitRefIter.author.Given as goal

abbrev pub invariant-loop-item : goal.invariant-loop-item
invariant-loop-item l = Searches IsAuthorToken l.fn.self l.item-iterator

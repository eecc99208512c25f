use Rattle.gixobj_tokens.proofs.CommitRuns.{Searches}
use Rattle.gixobj_tokens.specs.TokenSearch.{IsMessageToken}
use Rattle.gixobj_tokens.proofs.commit.CommitRefIter.message.Given as goal

abbrev pub invariant-loop-answer : goal.invariant-loop-answer
invariant-loop-answer l = Searches IsMessageToken l.fn.self l.answer-iterator

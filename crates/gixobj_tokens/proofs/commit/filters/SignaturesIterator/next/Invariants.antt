use Rattle.std.proofs.Common.{length}
use Rattle.gixobj_tokens.proofs.CommitRuns.{Searches}
use Rattle.gixobj_tokens.specs.CommitTokenSteps.{commit_reader_state}
use Rattle.gixobj_tokens.specs.TokenSearch.{IsActorToken}
use Rattle.gixobj_tokens.proofs.commit.filters.SignaturesIterator.next.Given as goal

abbrev pub invariant-loop-item : goal.invariant-loop-item
invariant-loop-item l = Searches IsActorToken l.fn.self.tokens l.self.tokens

abbrev pub decreases-loop-item : goal.decreases-loop-item
decreases-loop-item l = length (commit_reader_state l.self.tokens).bytes

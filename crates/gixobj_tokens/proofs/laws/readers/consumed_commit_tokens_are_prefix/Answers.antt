use Rattle.gixobj_tokens.proofs.CommitWalks as law
use Rattle.gixobj_tokens.proofs.laws.readers.consumed_commit_tokens_are_prefix.Goals as goal

pub returns-clause-starts : goal.returns-clause-starts
returns-clause-starts c = law.starts

pub returns-clause-continues : goal.returns-clause-continues
returns-clause-continues c = law.goes_on

pub returns-clause-ends : goal.returns-clause-ends
returns-clause-ends c = law.ends

pub returns-clause-stops : goal.returns-clause-stops
returns-clause-stops c = law.stops

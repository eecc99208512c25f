use Rattle.std.proofs.Common.{length}
use Rattle.gixobj_grammar.proofs.EntireCommits.{Reaches}
use Rattle.gixobj_grammar.proofs.commits.is_commit.Given as goal

abbrev pub invariant-loop-state : goal.invariant-loop-state
invariant-loop-state l = Reaches l.fn.hash_kind l.fn.bytes l.state l.rest

abbrev pub decreases-loop-state : goal.decreases-loop-state
decreases-loop-state l = length l.rest

-- The parents before the rest are read.
use Rattle.std.proofs.Common.{length}
use Rattle.gixobj_walks_commits.proofs.CommitNodes.{ReadsParents}
use Rattle.gixobj_walks_commits.proofs.node.commit_node.Given as goal

abbrev pub invariant-loop-hex : goal.invariant-loop-hex
invariant-loop-hex l = ReadsParents l.hash_kind l.bytes l.rest l.parents.items

abbrev pub decreases-loop-hex : goal.decreases-loop-hex
decreases-loop-hex l = length l.rest

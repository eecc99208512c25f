use Rattle.std.proofs.Common.{length, ◌≤◌}
use Rattle.gixobj_commit.specs.CommitViews.{BorrowsOneLineValues, commit_lines}
use Rattle.gixobj_grammar.specs.CommitBuilding.{Gathers}
use Rattle.gixobj_commit.proofs.commit.CommitRef.from_bytes.Given as goal

abbrev pub invariant-loop-state : goal.invariant-loop-state
invariant-loop-state l = Gathers l.fn.hash_kind l.fn.bytes l.state l.rest (commit_lines l.commit) × (1 ≤ l.commit.parents.capacity)
    × BorrowsOneLineValues l.commit

abbrev pub decreases-loop-state : goal.decreases-loop-state
decreases-loop-state l = length l.rest

-- What was read is of the store, and the starts reach it.
use Rattle.std.specs.Prelude.{◌-◌}
use Rattle.gixobj_walks_commits.specs.Nodes.{CommitGraph}
use Rattle.gixobj_walks_marks.specs.Readings.{reads}
use Rattle.gixobj_walks_store.proofs.GivenWalks.{IsWalkOver}
use Rattle.gixobj_walks_store.proofs.list.list_commits.Given as goal

abbrev pub invariant-commits : goal.invariant-commits
invariant-commits g l = IsWalkOver (CommitGraph (g.S.Store.objects l.store)) l.tips l.hidden l.walk

abbrev pub decreases-commits : goal.decreases-commits
decreases-commits g l = 18446744073709551615 - reads l.walk.nodes

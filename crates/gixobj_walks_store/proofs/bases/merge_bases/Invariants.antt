-- What was read is of the store, and the two commits reach it.
use Rattle.std.specs.Prelude.{◌-◌}
use Rattle.gixobj_walks_commits.specs.Nodes.{CommitGraph}
use Rattle.gixobj_walks_marks.specs.Readings.{reads}
use Rattle.gixobj_walks_store.proofs.SearchedBases.{IsSearchOver}
use Rattle.gixobj_walks_store.proofs.bases.merge_bases.Given as goal

abbrev pub invariant-commits : goal.invariant-commits
invariant-commits g l = IsSearchOver (CommitGraph (g.S.Store.objects l.store)) l.fn.one l.fn.other l.search

abbrev pub decreases-commits : goal.decreases-commits
decreases-commits g l = 18446744073709551615 - reads l.search.nodes

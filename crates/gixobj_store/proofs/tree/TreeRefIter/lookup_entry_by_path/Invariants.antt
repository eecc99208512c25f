use Rattle.std.proofs.Common.{Some, length}
use Rattle.gixobj_store.proofs.PathBytes.{path_names}
use Rattle.gixobj_store.proofs.Paths.{Follows}
use Rattle.gixobj_store.specs.Lookups.{remaining_tree}
use Rattle.gixobj_store.proofs.tree.TreeRefIter.lookup_entry_by_path.Given as goal

abbrev pub invariant-loop-tree : goal.invariant-loop-tree
invariant-loop-tree g l = Follows (g.S.Store.objects l.fn.store) (Some (remaining_tree l.fn.self)) (path_names l.fn.path) l.id (path_names l.rest)

abbrev pub decreases-loop-tree : goal.decreases-loop-tree
decreases-loop-tree g l = length (path_names l.rest)

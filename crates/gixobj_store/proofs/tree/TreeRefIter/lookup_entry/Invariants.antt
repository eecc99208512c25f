use Rattle.std.proofs.Common.{Some, length, map}
use Rattle.bstr.specs.Owned.{bstring_bytes}
use Rattle.gixobj_store.proofs.Paths.{Follows}
use Rattle.gixobj_store.specs.Lookups.{remaining_tree}
use Rattle.gixobj_store.proofs.tree.TreeRefIter.lookup_entry.Given as goal

abbrev pub invariant-loop-tree : goal.invariant-loop-tree
invariant-loop-tree g l = Follows (g.S.Store.objects l.fn.store) (Some (remaining_tree l.fn.self)) (map bstring_bytes l.fn.path) l.id
    (map bstring_bytes l.names)

abbrev pub decreases-loop-tree : goal.decreases-loop-tree
decreases-loop-tree g l = length l.names

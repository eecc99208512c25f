use Rattle.gixobj_store.proofs.Searching.{Searches}
use Rattle.gixobj_store.proofs.tree.TreeRefIter.first_named.Given as goal

abbrev pub invariant-loop-item : goal.invariant-loop-item
invariant-loop-item l = Searches l.fn.name l.fn.self l.item-iterator

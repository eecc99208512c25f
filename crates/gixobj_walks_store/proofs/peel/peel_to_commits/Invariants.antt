-- The ids before this one are peeled.
use Rattle.std.proofs.Common.{take}
use Rattle.gixobj_walks_store.proofs.peel.peel_to_commits.Given as goal
use Rattle.gixobj_walks_store.specs.Peeled.{ArePeeled}

abbrev pub invariant-loop-id : goal.invariant-loop-id
invariant-loop-id g l = ArePeeled (g.S.Store.objects l.store) l.max_tags (take l.id-index l.ids) l.commits.items

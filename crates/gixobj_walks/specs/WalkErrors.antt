-- Why the commits of a walk aren't listed.
use Rattle.std.specs.Prelude.{⊤}
use Rattle.gixobj_hash.specs.declared.hash.object_id.ObjectId.{ObjectId}
use Rattle.gixobj_walks_graph.specs.Graph.{HasAncestor}
use Rattle.gixobj_walks_order.specs.declared.error.ListError.{ListError}
use Rattle.gixobj_walks_order.specs.declared.error.ListError.TheVariants.{Cycle, OutOfMemory}
use Rattle.gixobj_walks.specs.Machine.{WalkView, given_graph}

-- a commit that was given is an ancestor of itself, or memory ran out
abbrev pub IsWalkListError : WalkView → ListError → Type 0
IsWalkListError walk Cycle = (id : ObjectId) × HasAncestor (given_graph walk) id id
IsWalkListError walk OutOfMemory = ⊤

-- Why the commits of a store aren't listed (git-rev-list).
use Rattle.std.specs.Prelude.{⊤, Bool, List}
use Rattle.gixobj_hash.specs.declared.hash.object_id.ObjectId.{ObjectId}
use Rattle.gixobj_store.specs.Stores.{Objects}
use Rattle.gixobj_walks_commits.specs.Nodes.{CommitGraph, IsFindNodeError}
use Rattle.gixobj_walks_graph.specs.Graph.{HasAncestor}
use Rattle.gixobj_walks_store.specs.Reached.{IsReachedFromEither}
use Rattle.gixobj_walks_store.specs.declared.error.WalkError.{WalkError}
use Rattle.gixobj_walks_store.specs.declared.error.WalkError.TheVariants as walk

-- a commit that a tip or a hidden commit reaches isn't read by its id, or is an ancestor of itself; or memory ran out
abbrev pub IsWalkError : Objects → (ObjectId → Bool) → List ObjectId → List ObjectId → WalkError → Type 0
IsWalkError objects may_fail tips hidden (walk.Node cause) = (id : ObjectId)
    × IsReachedFromEither (CommitGraph objects) tips hidden id × IsFindNodeError objects may_fail id cause
IsWalkError objects may_fail tips hidden walk.Cycle = (id : ObjectId)
    × IsReachedFromEither (CommitGraph objects) tips hidden id × HasAncestor (CommitGraph objects) id id
IsWalkError objects may_fail tips hidden walk.OutOfMemory = ⊤

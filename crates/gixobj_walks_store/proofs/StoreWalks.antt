-- The error of a walk over a store, by that of its list.
use Rattle.std.proofs.Common.{suc}
use Rattle.std.specs.Prelude.{Bool, List}
use Rattle.gixobj_hash.specs.declared.hash.object_id.ObjectId.{ObjectId}
use Rattle.gixobj_store.specs.Stores.{Objects}
use Rattle.gixobj_walks_marks.proofs.Paths.{includes_path}
use Rattle.gixobj_walks_order.specs.declared.error.ListError.{ListError}
use Rattle.gixobj_walks_order.specs.declared.error.ListError.TheVariants as list
use Rattle.gixobj_walks_commits.specs.Nodes.{CommitGraph}
use Rattle.gixobj_walks.specs.Machine.{WalkView, given_graph}
use Rattle.gixobj_walks.specs.WalkErrors.{IsWalkListError}
use Rattle.gixobj_walks_store.proofs.GivenWalks.{IsWalkOver, given_is_reached}
use Rattle.gixobj_walks_store.specs.Errors.{IsWalkError}
use Rattle.gixobj_walks_store.specs.ListErrors.{error_of}

pub walk_error_of_list : (objects : Objects) (may_fail : ObjectId → Bool) (tips hidden : List ObjectId) (walk : WalkView)
    → IsWalkOver (CommitGraph objects) tips hidden walk → (error : ListError) → IsWalkListError walk error
    → IsWalkError objects may_fail tips hidden (error_of error)
walk_error_of_list objects may_fail tips hidden walk is list.Cycle (id, path) = (
  id,
  given_is_reached (CommitGraph objects) tips hidden walk is id path.1.1.node path.1.1.named,
  (path.0, includes_path (given_graph walk) (CommitGraph objects) is.included (suc path.0) id id path.1),
)
walk_error_of_list objects may_fail tips hidden walk is list.OutOfMemory none = tt

-- The error of a walk over a store, by that of the walk's list.
use Rattle.gixobj_walks_order.specs.declared.error.ListError.{ListError}
use Rattle.gixobj_walks_order.specs.declared.error.ListError.TheVariants as list
use Rattle.gixobj_walks_store.specs.declared.error.WalkError.{WalkError}
use Rattle.gixobj_walks_store.specs.declared.error.WalkError.TheVariants as walk

-- the error of the walk that has this error of its list
abbrev pub error_of : ListError → WalkError
error_of list.Cycle = walk.Cycle
error_of list.OutOfMemory = walk.OutOfMemory

-- The names of the path are those that were split off, and those of the rest.
use Rattle.std.proofs.Common.{◌≡◌, ◌++◌, length, map}
use Rattle.bstr.specs.Owned.{bstring_bytes}
use Rattle.gixobj_store.proofs.PathBytes.{path_names}
use Rattle.gixobj_store.proofs.tree.lookup.path_names.Given as goal

abbrev pub invariant-loop-name : goal.invariant-loop-name
invariant-loop-name l = path_names l.fn.path ≡ map bstring_bytes l.names.items ++ path_names l.rest

abbrev pub decreases-loop-name : goal.decreases-loop-name
decreases-loop-name l = length (path_names l.rest)

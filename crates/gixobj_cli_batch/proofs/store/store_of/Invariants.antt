use Rattle.std.proofs.Common.{◌≡◌, map, take}
use Rattle.gix_object.specs.Memory.{memory_objects}
use Rattle.gixobj_cli_batch.specs.Objects.{objects_of}
use Rattle.gixobj_records.specs.Records.{record_view}
use Rattle.gixobj_cli_batch.proofs.store.store_of.Given as goal

-- the store has the objects of the records so far
abbrev pub invariant-loop-it : goal.invariant-loop-it
invariant-loop-it l = memory_objects l.store ≡ objects_of (map record_view (take l.it-index l.records))

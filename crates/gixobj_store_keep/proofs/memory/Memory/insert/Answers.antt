use Rattle.gixobj_store_keep.proofs.Objects.{memory_objects_insert}
use Rattle.gixobj_store_keep.proofs.memory.Memory.insert.Goals as goal

pub returns-clause-inserted : goal.returns-clause-inserted
returns-clause-inserted c = memory_objects_insert c.args.self.now (record { alloc = c.args.self.now.alloc; objects = c.insert.new.self })
    c.compute_hash-id.result
    (record { kind = c.args.kind; object_hash = c.args.object_hash; bytes = c.in_ok-from_slice.field-0 }) c.args.bytes.now c.in_ok-insert.ensures.updates
    c.in_ok-from_slice.ensures.items

use Rattle.gixobj_store_keep.proofs.Objects.{memory_objects_insert_known}
use Rattle.gixobj_store_keep.proofs.memory.Memory.insert_known.Goals as goal

pub returns-clause-inserted : goal.returns-clause-inserted
returns-clause-inserted c =
    memory_objects_insert_known c.args.self.now (record { alloc = c.args.self.now.alloc; objects = c.insert.new.self }) c.args.id c.args.kind c.kind.result
    c.in_ok-from_slice.field-0 c.args.bytes.now c.kind.ensures c.in_ok-from_slice.ensures.items c.in_ok-insert.ensures.updates

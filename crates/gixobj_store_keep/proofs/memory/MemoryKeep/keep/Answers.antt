use Rattle.gixobj_store_keep.proofs.Objects.{memory_objects_with_tree}
use Rattle.gixobj_store_keep.proofs.memory.MemoryKeep.keep.Goals as goal

pub returns-clause-stored : goal.returns-clause-stored
returns-clause-stored c =
    memory_objects_with_tree c.args.self.now (record { alloc = c.args.self.now.alloc; objects = c.insert.new.self }) c.args.id c.args.tree.now c.kind.result
    c.new-bytes.result.items c.write_to_vec.new.out c.kind.ensures c.new-bytes.ensures.items c.in-Ok.ensures.written c.in_ok-insert.ensures.updates

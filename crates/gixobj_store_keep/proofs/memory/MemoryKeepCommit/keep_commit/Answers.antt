use Rattle.gixobj_store_keep.proofs.Objects.{memory_objects_with_commit}
use Rattle.gixobj_store_keep.proofs.memory.MemoryKeepCommit.keep_commit.Goals as goal

pub returns-clause-stored : goal.returns-clause-stored
returns-clause-stored c =
    memory_objects_with_commit c.args.self.now (record { alloc = c.args.self.now.alloc; objects = c.insert.new.self }) c.args.id c.kind.result
    c.in_ok-from_slice.field-0
    c.args.bytes.now c.kind.ensures c.in_ok-from_slice.ensures.items c.in_ok-insert.ensures.updates

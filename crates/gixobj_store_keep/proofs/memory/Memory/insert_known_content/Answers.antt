use Rattle.std.proofs.Common.{refl}
use Rattle.std.proofs.lemmas.Result.{err_from_is_err_and}
use Rattle.gixobj_store_keep.proofs.Objects.{memory_objects_insert_known, named_none_of_absent}
use Rattle.gixobj_store_keep.proofs.memory.Memory.insert_known_content.Goals as goal

pub returns-clause-inserted : goal.returns-clause-inserted
returns-clause-inserted c =
    memory_objects_insert_known c.args.self.now (record { alloc = c.args.self.now.alloc; objects = c.insert.new.self }) c.args.id c.args.kind c.kind.result
    c.args.bytes c.args.bytes.items c.kind.ensures refl c.in_ok-insert.ensures.updates

pub returns-in_err-insert-clause-allocates : goal.returns-in_err-insert-clause-allocates
returns-in_err-insert-clause-allocates c =
    let none = named_none_of_absent c.args.self.now c.args.id c.in_err-insert.ensures.absent in
    let p = err_from_is_err_and c.from_residual.result c.from_residual.ensures.1 in rw (p.1) none

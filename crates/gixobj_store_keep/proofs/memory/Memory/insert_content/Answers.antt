use Rattle.std.proofs.Common.{◌≡◌, None, refl, rules, subst}
use Rattle.std.proofs.lemmas.Result.{err_from_is_err_and}
use Rattle.gixobj_hash.specs.Hash.{id_of}
use Rattle.gixobj_hash.specs.declared.hash.object_id.ObjectId.{ObjectId}
use Rattle.gixobj_store.specs.Stores.{named}
use Rattle.gixobj_store_keep.specs.Memory.{memory_objects}
use Rattle.gixobj_store_keep.proofs.Objects.{memory_objects_insert, named_none_of_absent}
use Rattle.gixobj_store_keep.proofs.memory.Memory.insert_content.Goals as goal

pub returns-clause-inserted : goal.returns-clause-inserted
returns-clause-inserted c = memory_objects_insert c.args.self.now (record { alloc = c.args.self.now.alloc; objects = c.insert.new.self })
    c.compute_hash-id.result (record { kind = c.args.kind; object_hash = c.args.object_hash; bytes = c.args.bytes }) c.args.bytes.items
    c.in_ok-insert.ensures.updates refl

pub returns-in_err-insert-clause-allocates : goal.returns-in_err-insert-clause-allocates
returns-in_err-insert-clause-allocates c =
    let none = named_none_of_absent c.args.self.now c.compute_hash-id.result c.in_err-insert.ensures.absent in
    let is : c.compute_hash-id.result ≡ id_of c.args.object_hash c.args.kind c.args.bytes.items = search rules in
    let same : named (memory_objects c.args.self.now) (id_of c.args.object_hash c.args.kind c.args.bytes.items) ≡ None =
    subst (λ (id : ObjectId). named (memory_objects c.args.self.now) id ≡ None) is none in
    let p = err_from_is_err_and c.from_residual.result c.from_residual.ensures.1 in rw (p.1) same

-- An editor of the stored root inserts the entry, and then writes.
use Rattle.std.proofs.Common.{◌∙◌, ap}
use Rattle.gix_object.specs.Calls.{names_of}
use Rattle.gix_object.specs.Mode.{mode_of_kind}
use Rattle.gix_object.specs.State.{new_state}
use Rattle.gixobj_examples_edits.proofs.Planned.{not_inserted_in_root, planned_files, inserted_in_root}
use Rattle.gixobj_examples_edits.proofs.planner.with_entry_in_stored.Goals as goal
use Rattle.gix_object.specs.Stores.{StoreModel}

pub returns-in-Err-try_upsert-clause-error : goal.returns-in-Err-try_upsert-clause-error
returns-in-Err-try_upsert-clause-error g c =
    let model : StoreModel g.row.S.Denot = record { objects = g.S.Store.objects; may_fail = g.S.Store.may_fail } in
    let new = c.new-editor.ensures in
    let begun = new.state ∙ ap (new_state c.in-Ok.tree c.args.store) c.kind.ensures in
    not_inserted_in_root model c.args.store c.args.root (names_of c.args.path.now) (mode_of_kind c.args.kind) c.args.id c.new-editor.result c.in-Ok.tree
    c.in-Err-try_upsert.error (c.in-Ok.ensures {u = tt}).found begun (c.in-Err-try_upsert.ensures {u = tt}).error

pub returns-in-Ok-write-clause-files : goal.returns-in-Ok-write-clause-files
returns-in-Ok-write-clause-files g c =
    let model : StoreModel g.row.S.Denot = record { objects = g.S.Store.objects; may_fail = g.S.Store.may_fail } in
    let new = c.new-editor.ensures in
    let begun = new.state ∙ ap (new_state c.in-Ok.tree c.args.store) c.kind.ensures in
    let (last, wrote) = (c.in-Ok-write.ensures {u = tt}).written in
    planned_files model c.args.store c.args.root (names_of c.args.path.now) (mode_of_kind c.args.kind) c.args.id c.new-editor.result c.in-Ok.tree
    (c.in-Ok.ensures {u = tt}).found begun new.has_bases new.files
    c.stored_root_has_files.ensures _ c.args.out last c.try_upsert.new.self c.write.new.self c.in-Ok-write.written
    (c.in_default.ensures {u = tt}).upserted wrote

pub returns-in-Ok-write-clause-written : goal.returns-in-Ok-write-clause-written
returns-in-Ok-write-clause-written g c =
    let model : StoreModel g.row.S.Denot = record { objects = g.S.Store.objects; may_fail = g.S.Store.may_fail } in
    let new = c.new-editor.ensures in
    let begun = new.state ∙ ap (new_state c.in-Ok.tree c.args.store) c.kind.ensures in
    let inserted = inserted_in_root model c.args.store c.args.root (names_of c.args.path.now) (mode_of_kind c.args.kind) c.args.id c.new-editor.result
    c.try_upsert.new.self c.in-Ok.tree (c.in-Ok.ensures {u = tt}).found begun (c.in_default.ensures {u = tt}).upserted in
    let (last, wrote) = (c.in-Ok-write.ensures {u = tt}).written in
    (c.try_upsert.new.self, c.write.new.self, last, inserted, wrote)

pub returns-clause-error : goal.returns-clause-error
returns-clause-error g c =
    let model : StoreModel g.row.S.Denot = record { objects = g.S.Store.objects; may_fail = g.S.Store.may_fail } in
    let new = c.new-editor.ensures in
    let begun = new.state ∙ ap (new_state c.in-Ok.tree c.args.store) c.kind.ensures in
    let inserted = inserted_in_root model c.args.store c.args.root (names_of c.args.path.now) (mode_of_kind c.args.kind) c.args.id c.new-editor.result
    c.try_upsert.new.self c.in-Ok.tree (c.in-Ok.ensures {u = tt}).found begun (c.in_default.ensures {u = tt}).upserted in
    let (last, stopped) = (c.in-Err-write.ensures {u = tt}).error in
    (c.try_upsert.new.self, last, inserted, stopped)

use Rattle.gixobj_editor_import.proofs.Replied.{leaf_removal_replied, removal_replied, upsert_replied}
use Rattle.gixobj_editor_import.proofs.edits.do_edit.Goals as goal
use Rattle.gixobj_store.specs.Stores.{store_model}

pub returns-in-Upsert : goal.returns-in-Upsert
returns-in-Upsert g c =
    let model = store_model g.S.Store.objects g.S.Store.may_fail in
    let call = c.try_upsert in
    rw c.in-Upsert.is (upsert_replied model c.args.editor.now call.new.self c.in-Upsert.path c.deref.result.now c.deref.ensures.value c.in-Upsert.kind
    c.in-Upsert.id call.result
    call.ensures.upserted call.ensures.after_error call.ensures.error call.ensures.unchanged)

pub returns-in-Remove : goal.returns-in-Remove
returns-in-Remove g c =
    let model = store_model g.S.Store.objects g.S.Store.may_fail in
    let call = c.try_remove in
    rw c.in-Remove.is (removal_replied model c.args.editor.now call.new.self c.in-Remove.path c.deref-in-Remove.result.now c.deref-in-Remove.ensures.value
    call.result
    call.ensures.removed call.ensures.after_error call.ensures.error)

pub returns-in-RemoveLeaf : goal.returns-in-RemoveLeaf
returns-in-RemoveLeaf g c =
    let model = store_model g.S.Store.objects g.S.Store.may_fail in
    let call = c.try_remove_leaf in
    rw c.in-RemoveLeaf.is (leaf_removal_replied model c.args.editor.now call.new.self c.in-RemoveLeaf.path c.deref-in-RemoveLeaf.result.now
    c.deref-in-RemoveLeaf.ensures.value call.result
    call.ensures.removed call.ensures.after_error call.ensures.error)

use Rattle.std.proofs.Common.{List, ap, refl, subst, ◌∙◌}
use Rattle.gixobj_editor_files.specs.Emission.{EmitsSome}
use Rattle.gixobj_editor_files.specs.State.{State, open_bases, open_dirs}
use Rattle.gixobj_store_keep.specs.Keeping.{IsStoreErrorAt}
use Rattle.gixobj_tree_entries.specs.Entries.{Pair}
use Rattle.gixobj_editor_import.proofs.Calling.{stopped, written}
use Rattle.gixobj_editor_import.proofs.Digests.{have_hex_of_id, written_root_id_kind}
use Rattle.gixobj_editor_import.proofs.Kept.{kept_all, not_kept}
use Rattle.gixobj_editor_import.proofs.written.write_and_keep.Goals as goal
use Rattle.gixobj_store.specs.Stores.{store_model}

pub returns-in-Ok-keep_all-clause-written : goal.returns-in-Ok-keep_all-clause-written
returns-in-Ok-keep_all-clause-written g c =
    let model = store_model g.S.Store.objects g.S.Store.may_fail in
    let kept = c.in-Ok-keep_all.ensures {u = tt} in
    kept_all model c.args.hash c.args.editor.now c.try_write.new.self _ c.store_mut.result.now c.keep_all.new.store c.in-Ok.written c.deref.result.now
    (written c.args.hash _ c.args.editor.now c.try_write.new.self c.in-Ok.written c.args.out.now
    c.try_write.new.out c.requires.digests (c.in-Ok.ensures {u = tt}).written)
    c.store_mut.ensures.value c.deref.ensures.value refl c.keep_all.ensures.same_may_fail kept.stored kept.have_encodings

pub returns-in-Ok-keep_all-clause-root : goal.returns-in-Ok-keep_all-clause-root
returns-in-Ok-keep_all-clause-root g c =
    have_hex_of_id c.args.hash c.in-Ok.written.id c.hex_round_trips.ensures.is_hex c.hex_round_trips.ensures.same_id c.is_an_id.ensures
    (written_root_id_kind c.args.hash c.args.editor.now c.try_write.new.self c.in-Ok.written
    (written c.args.hash _ c.args.editor.now c.try_write.new.self c.in-Ok.written c.args.out.now
    c.try_write.new.out c.requires.digests (c.in-Ok.ensures {u = tt}).written))

pub returns-in-Err-keep_all-clause-error : goal.returns-in-Err-keep_all-clause-error
returns-in-Err-keep_all-clause-error g c =
    let model = store_model g.S.Store.objects g.S.Store.may_fail in (
      c.in-Ok.written,
      c.in-Err-keep_all._count,
      not_kept model c.args.hash c.args.editor.now c.try_write.new.self _ c.store_mut.result.now c.keep_all.new.store c.in-Ok.written
          c.deref.result.now (written c.args.hash _ c.args.editor.now c.try_write.new.self c.in-Ok.written c.args.out.now
          c.try_write.new.out c.requires.digests (c.in-Ok.ensures {u = tt}).written)
          c.store_mut.ensures.value c.deref.ensures.value refl c.keep_all.ensures.same_may_fail c.in-Err-keep_all._count c.in-Err-keep_all.error
          (c.in-Err-keep_all.ensures {u = tt}).error,
    )

pub returns-in-Err-clause-error : goal.returns-in-Err-clause-error
returns-in-Err-clause-error g c = record {
  cause = stopped c.args.hash _ (EmitsSome (open_dirs c.args.editor.now) (open_bases c.args.editor.now)) c.in-Err.error c.args.out.now c.try_write.new.out
      c.requires.digests (c.in-Err.ensures {u = tt}).error;
  unchanged = (c.in-Err.ensures {u = tt}).unchanged;
}

pub returns-in-Err-keep_all-clause-cause : goal.returns-in-Err-keep_all-clause-cause
returns-in-Err-keep_all-clause-cause g c =
    let model = store_model g.S.Store.objects g.S.Store.may_fail in
    let wrote = written c.args.hash _ c.args.editor.now c.try_write.new.self c.in-Ok.written c.args.out.now
    c.try_write.new.out c.requires.digests (c.in-Ok.ensures {u = tt}).written in (
      c.in-Ok.written,
      c.in-Err-keep_all._count,
      not_kept model c.args.hash c.args.editor.now c.try_write.new.self _ c.store_mut.result.now c.keep_all.new.store c.in-Ok.written
          c.deref.result.now wrote c.store_mut.ensures.value c.deref.ensures.value refl c.keep_all.ensures.same_may_fail c.in-Err-keep_all._count
          c.in-Err-keep_all.error (c.in-Err-keep_all.ensures {u = tt}).error,
      subst (λ (s : g.row.S.Denot). IsStoreErrorAt g.S.Store.objects g.S.Keep.keep_errors s c.in-Ok.written.trees.items c.in-Err-keep_all._count
          c.in-Err-keep_all.error) (c.store_mut.ensures.value ∙ ap (λ (s : State g.row.S.Denot). s.store) wrote.rest)
          (subst (λ (pairs : List Pair). IsStoreErrorAt g.S.Store.objects g.S.Keep.keep_errors c.store_mut.result.now pairs c.in-Err-keep_all._count
          c.in-Err-keep_all.error) c.deref.ensures.value (c.in-Err-keep_all.ensures {u = tt}).cause),
    )

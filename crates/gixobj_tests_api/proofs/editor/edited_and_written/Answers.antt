-- The written tree has the files of the history, since each accepted edit adds its step to it.
use Rattle.std.proofs.Common.{ap, sym, subst, ◌∙◌}
use Rattle.gix_object.specs.Calls.{names_of}
use Rattle.gix_object.specs.Files.{Upserted}
use Rattle.gix_object.specs.Mode.{mode_of_kind}
use Rattle.gix_object.specs.Openings.{AreTreesOf}
use Rattle.gix_object.specs.State.{EditorFiles, State}
use Rattle.gix_object.specs.entries.entry_kind.EntryKind.TheVariants.{Blob}
use Rattle.gixobj_editor_files.proofs.EditedFiles.{removed_congruent, same_files_trans}
use Rattle.gixobj_tests_api.proofs.editor.edited_and_written.Goals as goal

pub returns-in-Ok : goal.returns-in-Ok
returns-in-Ok g c = λ trees fits T n agrees pairs has.
    let inserted = (c.in_ok-try_upsert.ensures {u = tt}).upserted trees fits in
    let stored = ap (λ (s : State _). s.store) inserted.rest in
    let took = (c.in_ok-try_remove.ensures {u = tt}).removed trees (subst (λ store. AreTreesOf (g.S.Store.objects store) trees) (sym stored) fits) in
    let wrote = (c.in-Ok.ensures {u = tt}).written in
    let upserted = Upserted T n (names_of c.args.first.now) (mode_of_kind Blob) c.args.id (EditorFiles T n c.args.editor.now) in
    same_files_trans _ _ _ (wrote.1.files T n pairs (took.has_bases T agrees (inserted.has_bases T agrees has)))
    (same_files_trans _ _ _ (took.files T n agrees) (removed_congruent (names_of c.args.second.now) (EditorFiles T n c.try_upsert.new.self) upserted
    (inserted.files T n agrees)))

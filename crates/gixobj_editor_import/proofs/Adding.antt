-- Steps insert objects into the store under their digests alone, imported or failed: for the contracts of `step` and
-- `import_all`.
use Rattle.std.proofs.Common.{◌≡◌, ◌∙◌, ⊎_elim, List, [], ◌∷◌, Option, ap, subst, sym, take}
use Rattle.std.proofs.lemmas.List.Elements.{All-take}
use Rattle.gixobj_editor_commands.specs.declared.command.Edit.{Edit}
use Rattle.gixobj_store.specs.Stores.{StoreModel, Objects}
use Rattle.gixobj_editor_write.specs.declared.write.Written.{Written}
use Rattle.gixobj_editor_files.specs.State.{State}
use Rattle.gixobj_hash.specs.declared.hash.kind.Kind as hash
use Rattle.gixobj_hash.specs.declared.hash.object_id.ObjectId.{ObjectId}
use Rattle.gixobj_store_keep.specs.Keeping.{with_commit, with_trees}
use Rattle.gixobj_editor.specs.declared.reply.EditReply.TheVariants as reply
use Rattle.gixobj_editor_import.specs.ByDigest.{AddsByDigest}
use Rattle.gixobj_editor_import.specs.Commits.{encode_step}
use Rattle.gixobj_editor_import.specs.Edited.{AreDone, IsWriteAfter}
use Rattle.gixobj_editor_import.specs.Steps.{AreImported, IsImported, IsStepFailed, IsStepEditsError, IsStepError, IsStepCommitError, IsStepWriteError}
use Rattle.gixobj_editor_import.specs.declared.import.ImportError.{ImportError}
use Rattle.gixobj_editor_import.specs.declared.import.ImportError.TheVariants as import
use Rattle.gixobj_editor_import.specs.declared.import.Imported.{Imported}
use Rattle.gixobj_editor_import.specs.declared.import.Importer.{Importer}
use Rattle.gixobj_editor_import.specs.declared.import.Step.{Step}
use Rattle.gixobj_editor_import.proofs.Digests.{IsDigest, adds_commit, adds_by_digest_nil, adds_by_digest_append, adds_trees, written_pairs_are_digests}
use Rattle.gixobj_editor_import.proofs.EditsDone.{all_kept, edits_stay, failed_stays}
use Rattle.gixobj_editor_import.proofs.StoreFacts.{OfStores}

module _ {S : Type 0} (model : StoreModel S) (laws : OfStores) where
  abbrev pub objects_of : Importer S → Objects
  objects_of importer = model.objects importer.editor.store

  trees_add : (hash : hash.Kind) (old new : State S) (edits : List Edit) (it : Written) → IsWriteAfter model hash old edits (reply.Written it) new
      → AddsByDigest (model.objects old.store) (model.objects new.store)
  trees_add hash old new edits it after =
      subst (AddsByDigest (model.objects old.store)) (sym (all_kept model laws.trees_of hash old new edits it after))
      (adds_trees laws.inserted hash it.trees.items (model.objects old.store) (written_pairs_are_digests hash it.trees.items after.write.written.called))

  module _ (old : Importer S) (step : Step) (it : Imported) (new : Importer S) (one : IsImported model old step it new) where
    pub kept_so : objects_of new ≡ with_commit it.commit (encode_step step it.written.id old.last) (with_trees it.written.trees.items (objects_of old))
    kept_so = one.commit.stored ∙ ap (with_commit it.commit (encode_step step it.written.id old.last))
        (all_kept model laws.trees_of old.hash old.editor one.between step.edits.items it.written one.trees)

    pub step_adds : AddsByDigest (objects_of old) (objects_of new)
    step_adds =
        adds_by_digest_append (objects_of old) (model.objects one.between.store) (objects_of new)
        (trees_add old.hash old.editor one.between step.edits.items it.written one.trees)
        (subst (AddsByDigest (model.objects one.between.store)) (sym one.commit.stored)
        (adds_commit laws.inserted old.hash it.commit (encode_step step it.written.id old.last) (model.objects one.between.store) one.commit.id))

  pub steps_add : (old new : Importer S) (steps : List Step) (imported : List Imported) → AreImported model old steps imported new
      → AddsByDigest (objects_of old) (objects_of new)
  steps_add old new [] [] done = adds_by_digest_nil (objects_of old) (objects_of new) (ap objects_of done)
  steps_add old new (step ∷ steps) (it ∷ imported) (between, one, done) =
      adds_by_digest_append (objects_of old) (objects_of between) (objects_of new) (step_adds old step it between one)
      (steps_add between new steps imported done)
  steps_add old new [] (it ∷ imported) done = absurd done
  steps_add old new (step ∷ steps) [] done = absurd done

  write_adds : (hash : hash.Kind) (old new : State S) (error : ImportError) → IsStepWriteError model hash old error new
      → AddsByDigest (model.objects old.store) (model.objects new.store)
  write_adds hash old new (import.Write error) is = adds_by_digest_nil _ _ (ap (λ (s : State S). model.objects s.store) is.unchanged)
  write_adds hash old new (import.NotKept error) (it, count, is) =
      subst (AddsByDigest (model.objects old.store)) (sym is.stored.stored)
      (adds_trees laws.inserted hash (take count it.trees.items) (model.objects old.store)
      (All-take (IsDigest hash) count it.trees.items (written_pairs_are_digests hash it.trees.items is.written.called)))
  write_adds hash old new import.WriteInStep is = absurd is
  write_adds hash old new (import.Edit index error) is = absurd is
  write_adds hash old new (import.Commit error) is = absurd is
  write_adds hash old new import.OutOfMemory is = absurd is
  write_adds hash old new import.Failed is = absurd is

  after_adds : (hash : hash.Kind) (edits : List Edit) (old new : State S) (error : ImportError) → (edited : State S) × AreDone model old edits edited
      × IsStepWriteError model hash edited error new
      → AddsByDigest (model.objects old.store) (model.objects new.store)
  after_adds hash edits old new error (edited, done, rejected) =
      subst (λ (objects : Objects). AddsByDigest objects (model.objects new.store)) (ap model.objects (edits_stay model laws.trees_of old edited edits done))
      (write_adds hash edited new error rejected)

  edits_add : (hash : hash.Kind) (edits : List Edit) (old new : State S) (error : ImportError) → IsStepEditsError model hash edits old error new
      → AddsByDigest (model.objects old.store) (model.objects new.store)
  edits_add hash edits old new (import.Edit index error) is =
      adds_by_digest_nil _ _ (ap model.objects (failed_stays model laws.trees_of is.reached new is.failed_edit error is.cause
      ∙ edits_stay model laws.trees_of old is.reached (take index edits) is.done))
  edits_add hash edits old new (import.Write error) is = after_adds hash edits old new (import.Write error) is
  edits_add hash edits old new (import.NotKept error) is = after_adds hash edits old new (import.NotKept error) is
  edits_add hash edits old new import.WriteInStep is = absurd is.2
  edits_add hash edits old new (import.Commit error) is = absurd is.2
  edits_add hash edits old new import.OutOfMemory is = absurd is.2
  edits_add hash edits old new import.Failed is = absurd is.2

  commit_adds : (hash : hash.Kind) (step : Step) (tree : ObjectId) (parent : Option ObjectId) (old new : State S) (error : ImportError)
      → IsStepCommitError model hash step tree parent old error new
      → AddsByDigest (model.objects old.store) (model.objects new.store)
  commit_adds hash step tree parent old new (import.NotKept error) is = adds_by_digest_nil _ _ is.unchanged
  commit_adds hash step tree parent old new (import.Commit error) is = adds_by_digest_nil _ _ (ap (λ (s : State S). model.objects s.store) is.1)
  commit_adds hash step tree parent old new import.OutOfMemory is = adds_by_digest_nil _ _ (ap (λ (s : State S). model.objects s.store) is.1)
  commit_adds hash step tree parent old new import.WriteInStep is = absurd is.0
  commit_adds hash step tree parent old new (import.Edit index error) is = absurd is.0
  commit_adds hash step tree parent old new (import.Write error) is = absurd is.0
  commit_adds hash step tree parent old new import.Failed is = absurd is.0

  failed_adds : (old new : Importer S) (step : Step) (error : ImportError) → IsStepFailed model old step error new
      → AddsByDigest (objects_of old) (objects_of new)
  failed_adds old new step error is =
      ⊎_elim (λ rejected. edits_add old.hash step.edits.items old.editor new.editor error rejected)
      (λ uncommitted.
      adds_by_digest_append (objects_of old) (model.objects uncommitted.between.store) (objects_of new)
      (trees_add old.hash old.editor uncommitted.between step.edits.items uncommitted.it uncommitted.trees)
      (commit_adds old.hash step uncommitted.it.id old.last uncommitted.between new.editor error uncommitted.cause))
      is.cause

  pub rejected_adds : (old new : Importer S) (step : Step) (error : ImportError) → IsStepError model old step error new
      → AddsByDigest (objects_of old) (objects_of new)
  rejected_adds old new step import.Failed is = adds_by_digest_nil _ _ (ap objects_of is.1)
  rejected_adds old new step import.WriteInStep is = adds_by_digest_nil _ _ (ap objects_of is.2)
  rejected_adds old new step (import.Edit index error) is = failed_adds old new step (import.Edit index error) is
  rejected_adds old new step (import.Write error) is = failed_adds old new step (import.Write error) is
  rejected_adds old new step (import.NotKept error) is = failed_adds old new step (import.NotKept error) is
  rejected_adds old new step (import.Commit error) is = failed_adds old new step (import.Commit error) is
  rejected_adds old new step import.OutOfMemory is = failed_adds old new step import.OutOfMemory is

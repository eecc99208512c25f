-- The files and the store after accepted edits and a write; the proof of `import_files` uses it.
use Rattle.std.proofs.Common.{◌≡◌, ◌∙◌, ℕ, List, [], ◌∷◌, Option, Some, ap, subst, sym}
use Rattle.std.specs.FinMap as map
use Rattle.std.specs.Prelude.{MatchOption}
use Rattle.gix_object.specs.Entries.{EntryView}
use Rattle.gix_object.specs.Bases.{HasBases}
use Rattle.gix_object.specs.Commands.{at_root}
use Rattle.gix_object.specs.Edited.{steps_if_done}
use Rattle.gix_object.specs.Files.{Files, NamedFiles, SameFiles, Table, Trees}
use Rattle.gix_object.specs.History.{FilesAfter}
use Rattle.gix_object.specs.Keeping.{with_trees}
use Rattle.gix_object.specs.Opening.{OpenFiles}
use Rattle.gix_object.specs.Openings.{AreTreesOf}
use Rattle.gix_object.specs.Replies.{Answers, IsEditReply}
use Rattle.gix_object.specs.RunTables.{AgreesWithObjects}
use Rattle.gix_object.specs.State.{DirMap, EditorFiles, State, open_bases, open_dirs}
use Rattle.gix_object.specs.Stores.{Objects, StoreModel}
use Rattle.gix_object.specs.Tables.{AgreesWithPairs}
use Rattle.gix_object.specs.write.write.Written.{Written}
use Rattle.gix_object.specs.commands.command.Edit.{Edit}
use Rattle.gix_object.specs.commands.command.Edit.TheVariants as edit
use Rattle.gix_object.specs.editor.reply.EditReply.{EditReply}
use Rattle.gix_object.specs.editor.reply.EditReply.TheVariants as edit_reply
use Rattle.gixobj_examples_edits.specs.Imports.{AreEditsDone, Decides, HasWriteReply, import_steps}
use Rattle.gixobj_examples_edits.proofs.RootsAlone.{root_alone_files}
use Rattle.gix_object.proofs.Tables.{agrees_with_store_of_objects, tree_at_last_pair}
use Rattle.gix_object.proofs.Files.{history_append, history_congruent, same_files_refl, same_files_sym, same_files_trans}

-- by the law that every store names trees
module _ {S E : Type 0} (model : StoreModel S) (answers : Answers E) (trees_of : (objects : Objects) → (trees : Trees) × AreTreesOf objects trees) where
  pub edit_stays : (old new : State S) (it : Edit) → IsEditReply model answers at_root old it edit_reply.Done new → new.store ≡ old.store
  edit_stays old new (edit.Upsert path kind id) done = let trees = trees_of (model.objects old.store) in ap (λ (s : State S). s.store)
      (done trees.0 trees.1).rest
  edit_stays old new (edit.Remove path) done = let trees = trees_of (model.objects old.store) in ap (λ (s : State S). s.store) (done trees.0 trees.1).rest
  edit_stays old new (edit.RemoveLeaf path) done = let trees = trees_of (model.objects old.store) in ap (λ (s : State S). s.store)
      (done trees.0 trees.1).removed.rest
  edit_stays old new edit.Write done = absurd done

  -- accepted edits leave the store unchanged
  edits_stay : (old new : State S) (edits : List Edit) → AreEditsDone model answers old edits new → new.store ≡ old.store
  edits_stay old new [] done = ap (λ (s : State S). s.store) done
  edits_stay old new (it ∷ edits) (between, first, done) = edits_stay between new edits done ∙ edit_stays old between it first

  module _ (T : Table) (n : ℕ) where
    edit_files : (old new : State S) (it : Edit) → IsEditReply model answers at_root old it edit_reply.Done new → AgreesWithObjects T (model.objects old.store)
        → SameFiles (EditorFiles T n new) (FilesAfter T n (steps_if_done it) (EditorFiles T n old))
    edit_files old new (edit.Upsert path kind id) done agrees =
        let trees = trees_of (model.objects old.store) in (done trees.0 trees.1).files T n
        (agrees_with_store_of_objects T (model.objects old.store) trees.0 trees.1 agrees)
    edit_files old new (edit.Remove path) done agrees =
        let trees = trees_of (model.objects old.store) in (done trees.0 trees.1).files T n
        (agrees_with_store_of_objects T (model.objects old.store) trees.0 trees.1 agrees)
    edit_files old new (edit.RemoveLeaf path) done agrees =
        let trees = trees_of (model.objects old.store) in (done trees.0 trees.1).removed.files T n
        (agrees_with_store_of_objects T (model.objects old.store) trees.0 trees.1 agrees)
    edit_files old new edit.Write done agrees = absurd done

    -- accepted edits make the files that their steps make
    edits_files : (old new : State S) (edits : List Edit) → AreEditsDone model answers old edits new → AgreesWithObjects T (model.objects old.store)
        → SameFiles (EditorFiles T n new) (FilesAfter T n (import_steps edits) (EditorFiles T n old))
    edits_files old new [] done agrees = subst (λ (s : State S). SameFiles (EditorFiles T n s) (EditorFiles T n old)) (sym done)
        (same_files_refl (EditorFiles T n old))
    edits_files old new (it ∷ edits) (between, first, done) agrees =
        let later = edits_files between new edits done
        (subst (λ (s : S). AgreesWithObjects T (model.objects s)) (sym (edit_stays old between it first)) agrees) in
        same_files_trans _ _ _ later
        (same_files_trans _ _ _ (history_congruent T n (import_steps edits) (EditorFiles T n between) (FilesAfter T n (steps_if_done it) (EditorFiles T n old))
        (edit_files old between it first agrees))
        (same_files_sym _ _ (history_append T n (steps_if_done it) (import_steps edits) (EditorFiles T n old))))

    edit_based : (old new : State S) (it : Edit) → IsEditReply model answers at_root old it edit_reply.Done new → AgreesWithObjects T (model.objects old.store)
        → HasBases T (open_dirs old) (open_bases old) → HasBases T (open_dirs new) (open_bases new)
    edit_based old new (edit.Upsert path kind id) done agrees has =
        let trees = trees_of (model.objects old.store) in (done trees.0 trees.1).has_bases T
        (agrees_with_store_of_objects T (model.objects old.store) trees.0 trees.1 agrees) has
    edit_based old new (edit.Remove path) done agrees has =
        let trees = trees_of (model.objects old.store) in (done trees.0 trees.1).has_bases T
        (agrees_with_store_of_objects T (model.objects old.store) trees.0 trees.1 agrees) has
    edit_based old new (edit.RemoveLeaf path) done agrees has =
        let trees = trees_of (model.objects old.store) in (done trees.0 trees.1).removed.has_bases T
        (agrees_with_store_of_objects T (model.objects old.store) trees.0 trees.1 agrees) has
    edit_based old new edit.Write done agrees has = absurd done

    -- a table that has the bases before accepted edits has them after
    edits_based : (old new : State S) (edits : List Edit) → AreEditsDone model answers old edits new → AgreesWithObjects T (model.objects old.store)
        → HasBases T (open_dirs old) (open_bases old) → HasBases T (open_dirs new) (open_bases new)
    edits_based old new [] done agrees has = subst (λ (s : State S). HasBases T (open_dirs s) (open_bases s)) (sym done) has
    edits_based old new (it ∷ edits) (between, first, done) agrees has =
        edits_based between new edits done (subst (λ (s : S). AgreesWithObjects T (model.objects s)) (sym (edit_stays old between it first)) agrees)
        (edit_based old between it first agrees has)

    pub named_files : (old new : State S) (edits : List Edit) (written : Written) → HasWriteReply model answers old edits (edit_reply.Written written) new
        → AgreesWithObjects T (model.objects old.store) → AgreesWithPairs T written.trees.items → HasBases T (open_dirs old) (open_bases old)
        → SameFiles (NamedFiles T n written.id) (FilesAfter T n (import_steps edits) (EditorFiles T n old))
    named_files old new edits written after agrees pairs has =
        same_files_trans _ _ _ (after.write.written.files T n pairs (edits_based old after.edited edits after.done agrees has))
        (edits_files old after.edited edits after.done agrees)

    pub files_remaining : (old new : State S) (edits : List Edit) (written : Written) → HasWriteReply model answers old edits (edit_reply.Written written) new
        → AgreesWithPairs T written.trees.items → SameFiles (EditorFiles T n new) (NamedFiles T n written.id)
    files_remaining old new edits written after pairs =
        let it = after.write in
        let written_tree = it.written.written_tree in
        let root : SameFiles (EditorFiles T n it.between) (Files T n written_tree) =
        subst (λ (dirs : DirMap). SameFiles (OpenFiles T n (λ path. map.get dirs path)) (Files T n written_tree)) (sym it.written.dirs)
        (root_alone_files T n written_tree) in
        let there : T.tree_at written.id ≡ Some written_tree = tree_at_last_pair T written.trees.items it.written.below
        (written.id, written_tree) it.written.last pairs in
        subst (λ (s : State S). SameFiles (EditorFiles T n s) (NamedFiles T n written.id)) (sym it.rest)
        (same_files_trans _ _ _ root (subst
        (λ (found : Option (List EntryView)). SameFiles (Files T n written_tree) (λ path mode id. MatchOption found ⊥ (λ es. Files T n es path mode id)))
        (sym there)
        (same_files_refl (Files T n written_tree))))

    -- after the write the root alone is open
    pub bases_remaining : (old new : State S) (edits : List Edit) (written : Written) → HasWriteReply model answers old edits (edit_reply.Written written) new
        → HasBases T (open_dirs new) (open_bases new)
    bases_remaining old new edits written after = subst (λ (s : State S). HasBases T (open_dirs s) (open_bases s)) (sym after.write.rest)
        (after.write.written.has_bases T)

  pub decides_of_eq : (old new : State S) (edits : List Edit) (index : ℕ) (its_reply shown : EditReply E) → Decides model answers old edits index its_reply new
      → its_reply ≡ shown → Decides model answers old edits index shown new
  decides_of_eq old new edits index its_reply shown decides is = subst (λ (r : EditReply E). Decides model answers old edits index r new) is decides

  -- if the deciding reply is that of a write, the write succeeded with this result
  pub write_done : (old new : State S) (edits : List Edit) (index : ℕ) (its_reply : EditReply E) (written : Written)
      → Decides model answers old edits index its_reply new → its_reply ≡ edit_reply.Written written
      → HasWriteReply model answers old edits (edit_reply.Written written) new
  write_done old new edits index its_reply written decides is = decides_of_eq old new edits index its_reply (edit_reply.Written written) decides is

  pub all_kept : (old new : State S) (edits : List Edit) (written : Written) → HasWriteReply model answers old edits (edit_reply.Written written) new
      → model.objects new.store ≡ with_trees written.trees.items (model.objects old.store)
  all_kept old new edits written after =
      after.write.stored.0 ∙ ap (λ (s : S). with_trees written.trees.items (model.objects s)) (edits_stay old after.edited edits after.done)

-- Edits that are done, and the write after them, make the files of their steps, and the store keeps the emitted trees:
-- for `do_edits`, `Adding` and `StepFiles`.
use Rattle.std.proofs.Common.{◌≡◌, ◌∙◌, ◌<◌, ◌≤◌, ◌+◌, ℕ, zero, suc, Some, List, [], ◌∷◌, ◌++◌, ap, arith, get_or, length, refl, subst, sym, take}
use Rattle.std.proofs.lemmas.List.{take_all, take_more}
use Rattle.std.specs.List.{flat_map}
use Rattle.std.specs.Prelude.{Contains, slice_get}
use Rattle.gixobj_editor_commands.specs.declared.command.Edit.{Edit}
use Rattle.gixobj_editor_commands.specs.declared.command.Edit.TheVariants as edit
use Rattle.gixobj_store.specs.Stores.{StoreModel, Objects}
use Rattle.gixobj_editor_lookups.specs.Openings.{AreTreesOf}
use Rattle.gixobj_editor_write.specs.declared.write.Written.{Written}
use Rattle.gixobj_editor_lookups.specs.declared.error.Error.{Error}
use Rattle.gixobj_editor_files.specs.Bases.{HasBases}
use Rattle.gixobj_editor_files.specs.Files.{NamedFiles, SameFiles, Table, Trees}
use Rattle.gixobj_editor_files.specs.History.{FilesAfter}
use Rattle.gixobj_editor_files.specs.State.{EditorFiles, State, open_bases, open_dirs}
use Rattle.gixobj_editor_files.specs.Tables.{AgreesWithPairs, AgreesWithStore}
use Rattle.gixobj_hash.specs.declared.hash.kind.Kind as hash
use Rattle.gixobj_store_keep.specs.Keeping.{with_trees}
use Rattle.gixobj_editor.specs.RunTables.{AgreesWithObjects}
use Rattle.gixobj_editor.specs.declared.reply.EditReply.TheVariants as reply
use Rattle.gixobj_editor_import.specs.Edited.{AreDone, IsFailedAt, IsReplied, IsWriteAfter, steps_if_done}
use Rattle.gixobj_editor_files.proofs.EditedFiles.{same_files_refl, same_files_sym, same_files_trans}
use Rattle.gixobj_editor_files.proofs.Histories.{history_append, history_congruent}

-- a table that agrees with the objects agrees with their trees
agrees_with_store_of_objects : (T : Table) (objects : Objects) (trees : Trees) → AreTreesOf objects trees → AgreesWithObjects T objects
    → AgreesWithStore T trees
agrees_with_store_of_objects T objects trees fits agrees = λ id entries requested is. agrees id entries requested ((fits id entries).0 is)

slice_get_of_get_or : (edits : List Edit) (index : ℕ) (it : Edit) → index < length edits → it ≡ get_or edits index it → slice_get edits index ≡ Some it
slice_get_of_get_or [] zero it within is = absurd (omega arith)
slice_get_of_get_or [] (suc index) it within is = absurd (omega arith)
slice_get_of_get_or (edit ∷ edits) zero it within is = ap Some (sym is)
slice_get_of_get_or (edit ∷ edits) (suc index) it within is = slice_get_of_get_or edits index it (omega arith) is

-- no edit of a list without writes is a write
pub no_write_in_edits : (edits : List Edit) (index : ℕ) (it : Edit) → index < length edits → it ≡ get_or edits index it → ¬ Contains edits edit.Write
    → it ≡ edit.Write → ⊥
no_write_in_edits edits index it within is none write = none (index, within, subst (λ (e : Edit). get_or edits index e ≡ e) write (sym is))

module _ {S : Type 0} (model : StoreModel S) where
  done_then : (old between new : State S) (edits : List Edit) (it : Edit) → AreDone model old edits between → IsReplied model between it reply.Done new
      → AreDone model old (edits ++ it ∷ []) new
  done_then old between new [] it done last = (new, subst (λ (s : State S). IsReplied model s it reply.Done new) done last, refl)
  done_then old between new (first ∷ edits) it (next, one, done) last = (next, one, done_then next between new edits it done last)

  pub one_more_done : (old between new : State S) (edits : List Edit) (index : ℕ) (it : Edit) → index < length edits → it ≡ get_or edits index it
      → AreDone model old (take index edits) between → IsReplied model between it reply.Done new → AreDone model old (take (index + 1) edits) new
  one_more_done old between new edits index it within is done last =
      let more : take (index + 1) edits ≡ take index edits ++ it ∷ [] = take_more edits index it within ∙ ap (λ (x : Edit). take index edits ++ x ∷ [])
      (sym is) in
      subst (λ (es : List Edit). AreDone model old es new) (sym more) (done_then old between new (take index edits) it done last)

  -- after the last edit all are done
  pub all_done : (old new : State S) (edits : List Edit) (index : ℕ) → length edits ≤ index → AreDone model old (take index edits) new
      → AreDone model old edits new
  all_done old new edits index over done = subst (λ (es : List Edit). AreDone model old es new) (take_all index edits over) done

  -- the next edit fails
  pub rejected_at : (old reached new : State S) (edits : List Edit) (index : ℕ) (it : Edit) (error : Error) → index < length edits → it ≡ get_or edits index it
      → AreDone model old (take index edits) reached
      → IsReplied model reached it (reply.Refused error) new → IsFailedAt model old edits index error new
  rejected_at old reached new edits index it error within is done failure =
      record { failed_edit = it; at = slice_get_of_get_or edits index it within is; reached = reached; done = done; cause = failure }

  -- by the law that every store names trees
  module _ (trees_of : (objects : Objects) → (trees : Trees) × AreTreesOf objects trees) where
    edit_stays : (old new : State S) (it : Edit) → IsReplied model old it reply.Done new → new.store ≡ old.store
    edit_stays old new (edit.Upsert path kind id) done = let trees = trees_of (model.objects old.store) in ap (λ (s : State S). s.store)
        (done trees.0 trees.1).rest
    edit_stays old new (edit.Remove path) done = let trees = trees_of (model.objects old.store) in ap (λ (s : State S). s.store) (done trees.0 trees.1).rest
    edit_stays old new (edit.RemoveLeaf path) done = let trees = trees_of (model.objects old.store) in ap (λ (s : State S). s.store)
        (done trees.0 trees.1).removed.rest
    edit_stays old new edit.Write done = absurd done

    -- the edits leave the store unchanged
    pub edits_stay : (old new : State S) (edits : List Edit) → AreDone model old edits new → new.store ≡ old.store
    edits_stay old new [] done = ap (λ (s : State S). s.store) done
    edits_stay old new (it ∷ edits) (between, first, done) = edits_stay between new edits done ∙ edit_stays old between it first

    pub failed_stays : (old new : State S) (it : Edit) (error : Error) → IsReplied model old it (reply.Refused error) new → new.store ≡ old.store
    failed_stays old new (edit.Upsert path kind id) error is = let trees = trees_of (model.objects old.store) in ap (λ (s : State S). s.store)
        (is.0.effect trees.0 trees.1).rest
    failed_stays old new (edit.Remove path) error is = let trees = trees_of (model.objects old.store) in ap (λ (s : State S). s.store)
        (is.effect trees.0 trees.1).rest
    failed_stays old new (edit.RemoveLeaf path) error is = let trees = trees_of (model.objects old.store) in ap (λ (s : State S). s.store)
        (is.effect trees.0 trees.1).rest
    failed_stays old new edit.Write error is = absurd is

    module _ (T : Table) where
      edit_based : (old new : State S) (it : Edit) → IsReplied model old it reply.Done new → AgreesWithObjects T (model.objects old.store)
          → HasBases T (open_dirs old) (open_bases old) → HasBases T (open_dirs new) (open_bases new)
      edit_based old new (edit.Upsert path kind id) done agrees has =
          let trees = trees_of (model.objects old.store) in (done trees.0 trees.1).has_bases T
          (agrees_with_store_of_objects T (model.objects old.store) trees.0 trees.1 agrees) has
      edit_based old new (edit.Remove path) done agrees has =
          let trees = trees_of (model.objects old.store) in (done trees.0 trees.1).has_bases T
          (agrees_with_store_of_objects T (model.objects old.store) trees.0 trees.1 agrees) has
      edit_based old new (edit.RemoveLeaf path) done agrees has =
          let trees = trees_of (model.objects old.store) in (done trees.0 trees.1).removed.has_bases T
          (agrees_with_store_of_objects T (model.objects old.store) trees.0 trees.1 agrees) has
      edit_based old new edit.Write done agrees has = absurd done

      -- the bases are the trees of their ids after the edits
      edits_based : (old new : State S) (edits : List Edit) → AreDone model old edits new → AgreesWithObjects T (model.objects old.store)
          → HasBases T (open_dirs old) (open_bases old) → HasBases T (open_dirs new) (open_bases new)
      edits_based old new [] done agrees has = subst (λ (s : State S). HasBases T (open_dirs s) (open_bases s)) (sym done) has
      edits_based old new (it ∷ edits) (between, first, done) agrees has =
          edits_based between new edits done (subst (λ (s : S). AgreesWithObjects T (model.objects s)) (sym (edit_stays old between it first)) agrees)
          (edit_based old between it first agrees has)

      module _ (n : ℕ) where
        edit_files : (old new : State S) (it : Edit) → IsReplied model old it reply.Done new → AgreesWithObjects T (model.objects old.store)
            → SameFiles (EditorFiles T n new) (FilesAfter T n (steps_if_done it) (EditorFiles T n old))
        edit_files old new (edit.Upsert path kind id) done agrees =
            let trees = trees_of (model.objects old.store) in (done trees.0 trees.1).files T n
            (agrees_with_store_of_objects T (model.objects old.store) trees.0 trees.1 agrees)
        edit_files old new (edit.Remove path) done agrees =
            let trees = trees_of (model.objects old.store) in (done trees.0 trees.1).files T n
            (agrees_with_store_of_objects T (model.objects old.store) trees.0 trees.1 agrees)
        edit_files old new (edit.RemoveLeaf path) done agrees =
            let trees = trees_of (model.objects old.store) in (done trees.0 trees.1).removed.files T n
            (agrees_with_store_of_objects T (model.objects old.store) trees.0 trees.1 agrees)
        edit_files old new edit.Write done agrees = absurd done

        -- the files after the edits are those of their steps
        edits_files : (old new : State S) (edits : List Edit) → AreDone model old edits new → AgreesWithObjects T (model.objects old.store)
            → SameFiles (EditorFiles T n new) (FilesAfter T n (flat_map steps_if_done edits) (EditorFiles T n old))
        edits_files old new [] done agrees = subst (λ (s : State S). SameFiles (EditorFiles T n s) (EditorFiles T n old)) (sym done)
            (same_files_refl (EditorFiles T n old))
        edits_files old new (it ∷ edits) (between, first, done) agrees =
            let later = edits_files between new edits done
            (subst (λ (s : S). AgreesWithObjects T (model.objects s)) (sym (edit_stays old between it first)) agrees) in
            same_files_trans _ _ _ later
            (same_files_trans _ _ _ (history_congruent T n (flat_map steps_if_done edits) (EditorFiles T n between)
            (FilesAfter T n (steps_if_done it) (EditorFiles T n old))
            (edit_files old between it first agrees))
            (same_files_sym _ _ (history_append T n (steps_if_done it) (flat_map steps_if_done edits) (EditorFiles T n old))))

    -- a write after the edits, whose trees the store has kept
    module _ (hash : hash.Kind) (old new : State S) (edits : List Edit) (it : Written)
        (following : IsWriteAfter model hash old edits (reply.Written it) new) where
      -- the store has the emitted trees after the write
      pub all_kept : model.objects new.store ≡ with_trees it.trees.items (model.objects old.store)
      all_kept = following.write.stored.0 ∙ ap (λ (s : S). with_trees it.trees.items (model.objects s)) (edits_stay old following.edited edits following.done)

      -- the root alone is open after the write
      pub bases_remaining : (T : Table) → HasBases T (open_dirs new) (open_bases new)
      bases_remaining T = subst (λ (s : State S). HasBases T (open_dirs s) (open_bases s)) (sym following.write.rest) (following.write.written.has_bases T)

      module _ (T : Table) (n : ℕ) (pairs : AgreesWithPairs T it.trees.items) (agrees : AgreesWithObjects T (model.objects old.store))
          (has : HasBases T (open_dirs old) (open_bases old)) where
        based : HasBases T (open_dirs following.edited) (open_bases following.edited)
        based = edits_based T old following.edited edits following.done agrees has

        -- the tree of the returned id has the files of the edits
        pub named_files : SameFiles (NamedFiles T n it.id) (FilesAfter T n (flat_map steps_if_done edits) (EditorFiles T n old))
        named_files = same_files_trans _ _ _ (following.write.written.files T n pairs based) (edits_files T n old following.edited edits following.done agrees)

        -- the editor continues with the files of the tree
        pub files_remaining : SameFiles (EditorFiles T n new) (NamedFiles T n it.id)
        files_remaining =
            subst (λ (s : State S). SameFiles (EditorFiles T n s) (NamedFiles T n it.id)) (sym following.write.rest)
            (same_files_trans _ _ _ (following.write.written.same_files T n pairs based) (same_files_sym _ _ (following.write.written.files T n pairs based)))

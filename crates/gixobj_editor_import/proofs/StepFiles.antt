-- The files of steps that are imported one after the other: for the contracts of `step` and `import_all`.
use Rattle.std.proofs.Common.{◌≡◌, ℕ, zero, suc, List, [], ◌∷◌, ◌++◌, Option, Some, ap, subst, sym, take}
use Rattle.std.proofs.lemmas.List.Elements.{All-cons, All-head, All-nil, All-tail}
use Rattle.std.specs.List.{flat_map}
use Rattle.gixobj_store.specs.Stores.{StoreModel, Objects}
use Rattle.gixobj_editor_files.specs.Bases.{HasBases}
use Rattle.gixobj_editor_files.specs.Files.{FileSet, NamedFiles, SameFiles, Table}
use Rattle.gixobj_editor_files.specs.History as history
use Rattle.gixobj_editor_files.specs.History.{FilesAfter}
use Rattle.gixobj_editor_files.specs.State.{EditorFiles, State, open_bases, open_dirs}
use Rattle.gixobj_tree_entries.specs.Entries.{Pair}
use Rattle.gixobj_editor_files.specs.Tables.{AgreesWithPairs}
use Rattle.gixobj_hash.specs.declared.hash.object_id.ObjectId.{ObjectId}
use Rattle.gixobj_store_keep.specs.Keeping.{with_commit, with_trees}
use Rattle.gixobj_editor.specs.RunTables.{AgreesWithObjects}
use Rattle.gixobj_editor_import.specs.Commits.{encode_step}
use Rattle.gixobj_editor_import.specs.Edited.{steps_if_done}
use Rattle.gixobj_editor_import.specs.Imports.{AgreesWithImports, AgreesWithStep, HasFilesOf, HaveFiles, HaveFilesOfNothing, IsNewImporter, edits_of}
use Rattle.gixobj_editor_import.specs.Imports.{pairs_of_imports, with_imports}
use Rattle.gixobj_editor_import.specs.Steps.{AreImported, IsImported}
use Rattle.gixobj_editor_import.specs.declared.import.Imported.{Imported}
use Rattle.gixobj_editor_import.specs.declared.import.Importer.{Importer}
use Rattle.gixobj_editor_import.specs.declared.import.Step.{Step}
use Rattle.gixobj_editor_import.proofs.Adding.{kept_so, objects_of}
use Rattle.gixobj_editor_import.proofs.EditsDone.{bases_remaining, files_remaining, named_files}
use Rattle.gixobj_editor_import.proofs.StoreFacts.{OfStores}
use Rattle.gixobj_editor_import.proofs.EmptyEditors.{nothing_based, nothing_open}
use Rattle.gixobj_editor_files.proofs.EditedFiles.{same_files_sym, same_files_trans}
use Rattle.gixobj_editor_files.proofs.Histories.{history_append, history_congruent}
use Rattle.gixobj_editor_files.specs.PlainHistory.{NoFiles}

agrees_with_pairs_prefix : (T : Table) (first then : List Pair) → AgreesWithPairs T (first ++ then) → AgreesWithPairs T first
agrees_with_pairs_prefix T [] then all = All-nil (λ (pair : Pair). T.tree_at pair.0 ≡ Some pair.1)
agrees_with_pairs_prefix T (pair ∷ first) then all =
    let P : Pair → Type 0 = λ pair. T.tree_at pair.0 ≡ Some pair.1 in All-cons P pair first (All-head P pair (first ++ then) all)
    (agrees_with_pairs_prefix T first then (All-tail P pair (first ++ then) all))

agrees_with_pairs_suffix : (T : Table) (first then : List Pair) → AgreesWithPairs T (first ++ then) → AgreesWithPairs T then
agrees_with_pairs_suffix T [] then all = all
agrees_with_pairs_suffix T (pair ∷ first) then all = let P : Pair → Type 0 = λ pair. T.tree_at pair.0 ≡ Some pair.1 in agrees_with_pairs_suffix T first then
    (All-tail P pair (first ++ then) all)

module _ {S : Type 0} (model : StoreModel S) (laws : OfStores) where
  -- ---- one step

  module _ (old : Importer S) (step : Step) (it : Imported) (new : Importer S) (one : IsImported model old step it new) where
    -- the editor is that of the write, but for its store
    pub step_bases : (T : Table) → HasBases T (open_dirs new.editor) (open_bases new.editor)
    step_bases T =
        subst (λ (s : State S). HasBases T (open_dirs s) (open_bases s)) (sym one.commit.rest)
        (bases_remaining model laws.trees_of old.hash old.editor one.between step.edits.items it.written one.trees T)

    module _ (T : Table) (n : ℕ) (agrees : AgreesWithStep T (objects_of model laws old) old.editor it) where
      abbrev first_edits : List history.Step
      first_edits = flat_map steps_if_done step.edits.items

      step_named : SameFiles (NamedFiles T n it.written.id) (FilesAfter T n first_edits (EditorFiles T n old.editor))
      step_named = named_files model laws.trees_of old.hash old.editor one.between step.edits.items it.written one.trees T n agrees.writes
          agrees.stores
          agrees.bases

      step_goes_on : SameFiles (EditorFiles T n new.editor) (NamedFiles T n it.written.id)
      step_goes_on =
          subst (λ (s : State S). SameFiles (EditorFiles T n s) (NamedFiles T n it.written.id)) (sym one.commit.rest)
          (files_remaining model laws.trees_of old.hash old.editor one.between step.edits.items it.written one.trees T n agrees.writes agrees.stores
          agrees.bases)

      pub step_remaining : SameFiles (EditorFiles T n new.editor) (FilesAfter T n first_edits (EditorFiles T n old.editor))
      step_remaining = same_files_trans _ _ _ step_goes_on step_named

      pub step_files : HasFilesOf T n old.editor step it new.editor
      step_files = record {
        tree = same_files_trans _ _ _ step_named (same_files_sym _ _ (history_append T n first_edits [] (EditorFiles T n old.editor)));
        continues = step_goes_on;
      }

  -- ---- a list of steps

  module _ (T : Table) (n : ℕ) where
    agrees_first : (old : Importer S) (step : Step) (steps : List Step) (it : Imported) (imported : List Imported)
        → AgreesWithImports T (objects_of model laws old) old.last (step ∷ steps) (it ∷ imported)
        → HasBases T (open_dirs old.editor) (open_bases old.editor) → AgreesWithStep T (objects_of model laws old) old.editor it
    agrees_first old step steps it imported agrees has =
        record { writes = agrees_with_pairs_prefix T it.written.trees.items (pairs_of_imports imported) agrees.writes; stores = agrees.stores 0; bases = has }

    agrees_later : (objects next : Objects) (parent last : Option ObjectId) (step : Step) (steps : List Step) (it : Imported)
        (imported : List Imported)
        → AgreesWithImports T objects parent (step ∷ steps) (it ∷ imported)
        → next ≡ with_commit it.commit (encode_step step it.written.id parent) (with_trees it.written.trees.items objects) → last ≡ Some it.commit
        → AgreesWithImports T next last steps imported
    agrees_later objects next parent last step steps it imported agrees is last_is = record {
      writes = agrees_with_pairs_suffix T it.written.trees.items (pairs_of_imports imported) agrees.writes;
      stores = λ count.
          subst (λ (p : Option ObjectId). AgreesWithObjects T (with_imports p (take count steps) (take count imported) next)) (sym last_is)
          (subst (λ (o : Objects). AgreesWithObjects T (with_imports (Some it.commit) (take count steps) (take count imported) o)) (sym is)
          (agrees.stores (suc count)));
    }

    files : (old new : Importer S) (steps : List Step) (imported : List Imported) → AreImported model old steps imported new
        → AgreesWithImports T (objects_of model laws old) old.last steps imported
        → HasBases T (open_dirs old.editor) (open_bases old.editor) → HaveFiles T n (EditorFiles T n old.editor) steps imported
    files old new [] [] done agrees has k it at = cc at
    files old new [] (first ∷ imported) done agrees has k it at = absurd done
    files old new (step ∷ steps) [] done agrees has k it at = absurd done
    files old new (step ∷ steps) (first ∷ imported) (between, one, done) agrees has zero it at =
        let same : first ≡ it = cc at in
        subst (λ (i : Imported). SameFiles (NamedFiles T n i.written.id) (FilesAfter T n (edits_of (step ∷ [])) (EditorFiles T n old.editor))) same
        (step_files old step first between one T n (agrees_first old step steps first imported agrees has)).tree
    files old new (step ∷ steps) (first ∷ imported) (between, one, done) agrees has (suc k) it at =
        let next = agrees_later (objects_of model laws old) (objects_of model laws between) old.last between.last step steps first imported agrees
        (kept_so model laws old step first between one)
        (ap (λ (i : Importer S). i.last) one.rest) in
        let later = files between new steps imported done next (step_bases old step first between one T) k it at in
        let edits = flat_map steps_if_done step.edits.items in
        let more = edits_of (take (suc k) steps) in
        same_files_trans _ _ _ later
        (same_files_trans _ _ _ (history_congruent T n more (EditorFiles T n between.editor) (FilesAfter T n edits (EditorFiles T n old.editor))
        (step_remaining old step first between one T n (agrees_first old step steps first imported agrees has)))
        (same_files_sym _ _ (history_append T n edits more (EditorFiles T n old.editor))))

    same_have : (A B : FileSet) (steps : List Step) (imported : List Imported) → SameFiles A B → HaveFiles T n A steps imported
        → HaveFiles T n B steps imported
    same_have A B steps imported same have k it at = same_files_trans _ _ _ (have k it at) (history_congruent T n (edits_of (take (suc k) steps)) A B same)

  -- the files of a new importer's steps
  pub files_of_new : (old new : Importer S) (steps : List Step) (imported : List Imported) → AreImported model old steps imported new
      → IsNewImporter old
      → HaveFilesOfNothing (objects_of model laws old) steps imported
  files_of_new old new steps imported done is T n agrees =
      let alone = ap (λ (s : State S). s.dirs) is.editor in
      same_have T n (EditorFiles T n old.editor) NoFiles steps imported (nothing_open old.editor alone T n)
      (files T n old new steps imported done
      (subst (λ (parent : Option ObjectId). AgreesWithImports T (objects_of model laws old) parent steps imported)
      (sym is.last) agrees) (nothing_based old.editor alone T))

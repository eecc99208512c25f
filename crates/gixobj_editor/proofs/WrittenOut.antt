-- The record of a write of the root follows from its emitted trees: for `Editor::try_write` and `WrittenBelow`.
use Rattle.std.proofs.Common.{All, ◌≡◌, ◌∙◌, ℕ, List, [], ◌∷◌, ◌++◌, Option, Some, refl, sym, ap, subst}
use Rattle.std.specs.Prelude.{MatchOption}
use Rattle.std.specs.List.{AllByRecursion, FoldsTo}
use Rattle.std.proofs.lemmas.List.Elements.{All-from_recursion, recursion_from_All}
use Rattle.gixobj_tree_entries.specs.Entries.{EntryView, Pair}
use Rattle.gixobj_hash.specs.declared.hash.kind.Kind.{Kind}
use Rattle.gixobj_editor_files.specs.Files.{Files, Path, SameFiles, Table}
use Rattle.gixobj_editor_files.specs.Emission.{EmitsBelow, Saves}
use Rattle.gixobj_editor_files.specs.Opening.{Dirs, OpenFiles}
use Rattle.gixobj_editor_files.specs.State.{State}
use Rattle.gixobj_editor_files.specs.Tables.{AgreesWithPairs}
use Rattle.gixobj_editor_files.proofs.EditedFiles.{root_alone_files, same_files_trans}
use Rattle.gixobj_editor_files.proofs.WrittenFiles.{known_append_left, known_append_right, emits_below_files, are_trees_of_opened}
use Rattle.gixobj_editor_write.specs.Calls.{IsStorable}
use Rattle.gixobj_editor_open.specs.Nested.{Opened, bases_of, dirs_of, opened}
use Rattle.gixobj_editor_open.proofs.Steps.{dirs_of_childless}
use Rattle.gixobj_editor_write.proofs.StorablePairs.{emits_below_storable}
use Rattle.gixobj_editor_write.specs.declared.write.Written.{Written}
use Rattle.gixobj_editor.specs.Writes.{IsWrittenEditor}
use Rattle.gixobj_editor.proofs.Edited.{EditedSo, OpenedOn, map_dirs_at, map_bases, map_dirs, map_is_opened_on, only_edited_bases_of_map, map_bases_eq}
use Rattle.gixobj_editor.proofs.Edited.{map_dirs_eq, state_of}
use Rattle.gixobj_editor_files.specs.Bases.{HasBases, base_edited}
use Rattle.gixobj_editor_files.specs.Edits.{only_open}
use Rattle.gixobj_editor_files.proofs.Based.{everywhere_based}
use Rattle.gixobj_editor_files.proofs.Calls.{has_bases_of_none}

-- each pair may be emitted
pub all_storable_snoc : (head : List Pair) (pair : Pair) → AllByRecursion (λ p. IsStorable p.1) head → IsStorable pair.1
    → AllByRecursion (λ p. IsStorable p.1) (head ++ pair ∷ [])
all_storable_snoc [] pair h k = (k, tt)
all_storable_snoc (first ∷ head) pair h k = (h.0, all_storable_snoc head pair h.1 k)

module _ {S F : Type 0} (store : S) (hash : Kind) (prefix : Path) (gave : F → Pair → F → Type 0) where
  emits_written : (ds : Opened) (n : ℕ) → OpenedOn ds → (it : Written) (below : List Pair) (written_tree base : List EntryView) (requested answered : F)
      → Saves (dirs_of ds) (bases_of ds) below written_tree it.saved → it.trees.items ≡ below ++ (it.id, written_tree) ∷ []
      → FoldsTo gave requested (below ++ (it.id, written_tree) ∷ []) answered → IsStorable written_tree → EditedSo ds (opened written_tree base [])
      → IsWrittenEditor gave requested (state_of store hash prefix ds n) it (state_of store hash prefix (opened written_tree base []) n) answered
  emits_written ds n was it below written_tree base requested answered going is called storable remaining =
      let there : EmitsBelow (map_dirs ds) (map_bases ds) below written_tree going.0 =
      subst (λ (b : Dirs). EmitsBelow (map_dirs ds) b below written_tree going.0)
      (sym (map_bases_eq ds)) (subst (λ (d : Dirs). EmitsBelow d (bases_of ds) below written_tree going.0) (sym (map_dirs_eq ds)) going.1) in
      let on = map_is_opened_on ds was in
      let known : (T : Table) → AgreesWithPairs T it.trees.items → AllByRecursion (λ p. T.tree_at p.0 ≡ Some p.1) (below ++ (it.id, written_tree) ∷ []) =
      λ T agrees. recursion_from_All (λ (p : Pair). T.tree_at p.0 ≡ Some p.1) (below ++ (it.id, written_tree) ∷ [])
      (subst (λ (ps : List Pair). AgreesWithPairs T ps) is agrees) in
      let files : (T : Table) (k : ℕ) → AgreesWithPairs T it.trees.items → HasBases T (map_dirs ds) (map_bases ds)
      → SameFiles (Files T k written_tree) (OpenFiles T k (map_dirs ds)) =
      λ T k agrees has. emits_below_files T (map_dirs ds) (map_bases ds) below written_tree going.0 there (are_trees_of_opened (map_dirs ds) on.opened)
      (everywhere_based T (map_dirs ds) (map_bases ds) on.null_based has) (known_append_left T below ((it.id, written_tree) ∷ []) (known T agrees)) k in
      let new_is : (at : Path) → map_dirs (opened written_tree base []) at ≡ only_open written_tree at = λ at. map_dirs_at (opened written_tree base []) at
      ∙ ap (λ (d : Dirs). d at)
      (dirs_of_childless written_tree) in
      record {
        emitted = (below, it.id, written_tree, (going.0, there, going.2), is);
        called = subst (λ (ps : List Pair). FoldsTo gave requested ps answered) (sym is) called;
        storable = subst (λ (ps : List Pair). All (λ pair. IsStorable pair.1) ps) (sym is)
            (All-from_recursion (λ (p : Pair). IsStorable p.1) (below ++ (it.id, written_tree) ∷ [])
            (all_storable_snoc below (it.id, written_tree) (emits_below_storable (map_dirs ds)
            (map_bases ds) below written_tree going.0 there on.opened.well_formed).0
            storable));
        below = below;
        written_tree = written_tree;
        last = is;
        dirs = refl;
        bases = only_edited_bases_of_map ds (opened written_tree base []) remaining;
        rest = refl;
        files = λ T k agrees has. subst (λ (o : Option (List EntryView)). SameFiles (λ path mode it. MatchOption o ⊥ (λ es. Files T k es path mode it))
            (OpenFiles T k (map_dirs ds))) (sym ((known_append_right T below ((it.id, written_tree) ∷ []) (known T agrees)).0)) (files T k agrees has);
        same_files = λ T k agrees has. same_files_trans _ _ _ (root_alone_files T k written_tree) (files T k agrees has);
        has_bases = λ T. has_bases_of_none T (map_dirs (opened written_tree base [])) (map_bases (opened written_tree base []))
            (λ name path. only_edited_bases_of_map ds (opened written_tree base []) remaining (name ∷ path)
            ∙ ap (λ (o : Option (List EntryView)). base_edited (map_dirs ds (name ∷ path)) o (map_bases ds (name ∷ path))) (new_is (name ∷ path)));
      }

  pub written_at : (ds ds' : Opened) (n : ℕ) (old : State S) → state_of store hash prefix ds n ≡ old → OpenedOn ds
      → (it : Written) (below : List Pair) (written_tree base : List EntryView) (requested answered : F)
      → Saves (dirs_of ds) (bases_of ds) below written_tree it.saved
      → it.trees.items ≡ below ++ (it.id, written_tree) ∷ [] → FoldsTo gave requested (below ++ (it.id, written_tree) ∷ []) answered → IsStorable written_tree
      → ds' ≡ opened written_tree base []
      → EditedSo ds ds' → IsWrittenEditor gave requested old it (state_of store hash prefix ds' n) answered
  written_at ds ds' n old view was it below written_tree base requested answered going is called storable remaining edited =
      subst (λ (o : State S). IsWrittenEditor gave requested o it (state_of store hash prefix ds' n) answered) view
      (subst (λ (d : Opened). IsWrittenEditor gave requested (state_of store hash prefix ds n) it (state_of store hash prefix d n) answered) (sym remaining)
      (emits_written ds n was it below written_tree base requested answered going is called storable (subst (λ (d : Opened). EditedSo ds d) remaining edited)))

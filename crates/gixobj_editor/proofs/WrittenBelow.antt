-- The record of a write of the directory at a prefix follows from its emitted trees; the proof of `write_below` uses
-- it.
use Rattle.std.proofs.Common.{All, ◌≡◌, ◌≢◌, ◌∙◌, ℕ, List, [], ◌∷◌, ◌++◌, None, Some, Result, Ok, Err, refl, sym, ap, subst, append-nil}
use Rattle.std.specs.Prelude.{IfOk, OnErr}
use Rattle.std.specs.List.{FoldsTo}
use Rattle.std.proofs.lemmas.List.Elements.{All-from_recursion}
use Rattle.gixobj_editor_write.specs.Calls.{IsStorable}
use Rattle.gixobj_editor_open.specs.Nested.{Opened, bases_of, dirs_of}
use Rattle.gixobj_editor_write.proofs.StorablePairs.{emits_below_storable}
use Rattle.gixobj_editor_files.specs.Edits.{only_open, with_path}
use Rattle.gixobj_editor_files.specs.Files.{Path, SameFiles}
use Rattle.gixobj_editor_files.specs.Emission.{EmitsBelow, Saves}
use Rattle.gixobj_editor_files.specs.Opening.{Dirs, IsOpened, OpenFiles, in_path}
use Rattle.gixobj_editor_files.specs.State.{State, open_dirs}
use Rattle.gixobj_editor_files.specs.Tables.{AgreesWithPairs}
use Rattle.gixobj_editor_files.proofs.BelowPrefix.{with_path_at_prefix, is_opened_with_only}
use Rattle.gixobj_editor_files.proofs.CursorFiles.{written_id_files_below_prefix, write_keeps_files}
use Rattle.gixobj_hash.specs.declared.hash.kind.Kind.{Kind}
use Rattle.gixobj_tree_entries.specs.Entries.{EntryView, Pair}
use Rattle.gixobj_editor_write.specs.declared.write.Written.{Written}
use Rattle.gixobj_editor.specs.Cursors.{IsWrittenBelow}
use Rattle.gixobj_editor.proofs.Edited.{EditedSo, OpenedOn, map_is_opened, map_bases, map_dirs, map_is_opened_on, only_edited_bases_of_map, map_bases_eq}
use Rattle.gixobj_editor.proofs.Edited.{map_dirs_eq, state_of}
use Rattle.gixobj_editor_files.proofs.Based.{everywhere_based}
use Rattle.gixobj_editor_files.proofs.Calls.{written_based}
use Rattle.gixobj_editor.proofs.WrittenOut.{all_storable_snoc}

-- the directory at the prefix is open among the owned ones too
pub prefix_is_open : {S : Type 0} (store : S) (hash : Kind) (prefix : Path) (ds : Opened) (n : ℕ) (old : State S) → state_of store hash prefix ds n ≡ old
    → open_dirs old old.prefix ≢ None → dirs_of ds prefix ≢ None
prefix_is_open {S} store hash prefix ds n old view there = subst (λ (d : Dirs). d prefix ≢ None) (map_dirs_eq ds)
    (subst (λ (o : State S). open_dirs o o.prefix ≢ None) (sym view) there)

-- the prefix is unchanged
pub write_keeps_prefix : {W X S : Type 0} (result : Result W X) (old new : State S) → IfOk result (λ _. new ≡ record old { dirs = new.dirs; bases = new.bases })
    → OnErr result (new ≡ old) → new.prefix ≡ old.prefix
write_keeps_prefix {S = S} (Ok it) old new rest unchanged = ap (λ (o : State S). o.prefix) rest
write_keeps_prefix {S = S} (Err error) old new rest unchanged = ap (λ (o : State S). o.prefix) unchanged

-- the directory at the prefix is still open, with the last emitted tree
pub written_prefix_is_open : {W X S : Type 0} (result : Result W X) (old new : State S)
    → IfOk result (λ _. (written_tree : List EntryView) × ((at : Path) → open_dirs new at ≡ with_path old.prefix (only_open written_tree) (open_dirs old) at))
    → OnErr result (new ≡ old) → new.prefix ≡ old.prefix → open_dirs old old.prefix ≢ None → open_dirs new new.prefix ≢ None
written_prefix_is_open (Ok it) old new (written_tree, remaining) unchanged same there =
    λ none. let found : Some written_tree ≡ None =
    sym (sym (ap (with_path old.prefix (only_open written_tree) (open_dirs old)) (append-nil old.prefix))
    ∙ with_path_at_prefix old.prefix (only_open written_tree) (open_dirs old) [])
    ∙ sym (remaining old.prefix) ∙ subst (λ (p : Path). open_dirs new p ≡ None) same none in cc found
written_prefix_is_open {S = S} (Err error) old new ok unchanged same there = subst (λ (o : State S). open_dirs o o.prefix ≢ None) (sym unchanged) there

pub is_opened_after_write : (prefix : Path) (written_tree : List EntryView) (ds ds' : Opened) → IsOpened (dirs_of ds) → dirs_of ds prefix ≢ None
    → IsStorable written_tree
    → ((at : Path) → dirs_of ds' at ≡ with_path prefix (only_open written_tree) (dirs_of ds) at) → IsOpened (dirs_of ds')
is_opened_after_write prefix written_tree ds ds' all there storable remaining = subst (λ (d : Dirs). IsOpened d) (sym (λ i at. remaining at i))
    (is_opened_with_only prefix written_tree (dirs_of ds) all there storable.well_formed)

module _ {S F : Type 0} (store : S) (hash : Kind) (prefix : Path) (gave : F → Pair → F → Type 0) where
  emits_written : (ds ds' : Opened) (n : ℕ) → OpenedOn ds → dirs_of ds prefix ≢ None → (it : Written) (below : List Pair) (written_tree : List EntryView)
      (requested answered : F) → Saves (in_path prefix (dirs_of ds)) (in_path prefix (bases_of ds)) below written_tree it.saved
      → it.trees.items ≡ below ++ (it.id, written_tree) ∷ [] → FoldsTo gave requested (below ++ (it.id, written_tree) ∷ []) answered → IsStorable written_tree
      → ((at : Path) → dirs_of ds' at ≡ with_path prefix (only_open written_tree) (dirs_of ds) at) → EditedSo ds ds'
      → IsWrittenBelow gave requested (state_of store hash prefix ds n) prefix it (state_of store hash prefix ds' n) answered
  emits_written ds ds' n was there it below written_tree requested answered going is called storable remaining edited =
      let old_is = map_dirs_eq ds in
      let open_there : map_dirs ds prefix ≢ None = subst (λ (d : Dirs). d prefix ≢ None) (sym old_is) there in
      let on = map_is_opened_on ds was in
      let leaving : EmitsBelow (in_path prefix (map_dirs ds)) (in_path prefix (map_bases ds)) below written_tree going.0 =
      subst (λ (b : Dirs). EmitsBelow (in_path prefix (map_dirs ds)) (in_path prefix b) below written_tree going.0) (sym (map_bases_eq ds))
      (subst (λ (d : Dirs). EmitsBelow (in_path prefix d) (in_path prefix (bases_of ds)) below written_tree going.0) (sym old_is) going.1) in
      let new_is : map_dirs ds' ≡ with_path prefix (only_open written_tree) (map_dirs ds) = map_dirs_eq ds' ∙ (λ i at. remaining at i)
      ∙ (λ i. with_path prefix (only_open written_tree) (sym old_is i)) in
      record {
        emitted = (below, it.id, written_tree, (going.0, leaving, going.2), is);
        called = subst (λ (ps : List Pair). FoldsTo gave requested ps answered) (sym is) called;
        storable = subst (λ (ps : List Pair). All (λ pair. IsStorable pair.1) ps) (sym is)
            (All-from_recursion (λ (p : Pair). IsStorable p.1) (below ++ (it.id, written_tree) ∷ [])
            (all_storable_snoc below (it.id, written_tree) (emits_below_storable (in_path prefix (map_dirs ds))
            (in_path prefix (map_bases ds)) below written_tree going.0 leaving
            (λ at. on.opened.well_formed (prefix ++ at))).0 storable));
        below = below;
        written_tree = written_tree;
        last = is;
        dirs = λ at i. new_is i at;
        bases = only_edited_bases_of_map ds ds' edited;
        rest = refl;
        is_opened = map_is_opened ds' (is_opened_after_write prefix written_tree ds ds' was.opened there storable remaining);
        files = λ T k agrees has. written_id_files_below_prefix T k prefix (map_dirs ds) (map_bases ds) below written_tree going.0 it.id on.opened
            (everywhere_based T (map_dirs ds) (map_bases ds) on.null_based has) open_there leaving (subst (λ (ps : List Pair). AgreesWithPairs T ps) is agrees);
        same_files = λ T k agrees has. subst (λ (d : Dirs). SameFiles (OpenFiles T k d) (OpenFiles T k (map_dirs ds))) (sym new_is)
            (write_keeps_files T k prefix (map_dirs ds) (map_bases ds) below written_tree going.0 it.id on.opened
            (everywhere_based T (map_dirs ds) (map_bases ds) on.null_based has) open_there leaving
            (subst (λ (ps : List Pair). AgreesWithPairs T ps) is agrees));
        has_bases = written_based (map_dirs ds) (map_bases ds) (map_dirs ds') (map_bases ds') on prefix written_tree open_there (λ at i. new_is i at)
            (only_edited_bases_of_map ds ds' edited);
      }

  pub written_at : (ds ds' : Opened) (n : ℕ) (old : State S) → state_of store hash prefix ds n ≡ old → OpenedOn ds → dirs_of ds prefix ≢ None
      → (it : Written) (below : List Pair) (written_tree : List EntryView) (requested answered : F)
      → Saves (in_path prefix (dirs_of ds)) (in_path prefix (bases_of ds)) below written_tree it.saved → it.trees.items ≡ below ++ (it.id, written_tree) ∷ []
      → FoldsTo gave requested (below ++ (it.id, written_tree) ∷ []) answered → IsStorable written_tree
      → ((at : Path) → dirs_of ds' at ≡ with_path prefix (only_open written_tree) (dirs_of ds) at) → EditedSo ds ds'
      → IsWrittenBelow gave requested old old.prefix it
      (state_of store hash prefix ds' n) answered
  written_at ds ds' n old view was there it below written_tree requested answered going is called storable remaining edited =
      subst (λ (o : State S). IsWrittenBelow gave requested o o.prefix it (state_of store hash prefix ds' n) answered) view
      (emits_written ds ds' n was there it below written_tree requested answered going is called storable remaining edited)

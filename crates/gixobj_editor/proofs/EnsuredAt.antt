-- The record of an ensured directory follows from its effect on the open directories; the proof of `ensure_directory`
-- uses it.
use Rattle.std.proofs.Common.{◌≡◌, ◌≢◌, ◌∙◌, ℕ, Bool, List, [], ◌++◌, Option, Some, None, refl, sym, ap, subst}
use Rattle.std.proofs.lemmas.List.Elements.{recursion_from_All}
use Rattle.std.specs.List.{AllByRecursion}
use Rattle.gixobj_store.specs.Stores.{Objects}
use Rattle.gixobj_editor_open.specs.Paths.{AreNames}
use Rattle.gixobj_editor_open.specs.Nested.{Opened, dirs_of}
use Rattle.gixobj_editor_lookups.specs.Openings.{IsOpenErrorAt}
use Rattle.gixobj_editor_lookups.specs.declared.opening.Error as directory
use Rattle.gixobj_editor_lookups.specs.declared.opening.Error.TheVariants as opening
use Rattle.gixobj_editor_files.specs.Edits.{IsNoTree, Opens, ensured_dirs, counted, raised}
use Rattle.gixobj_editor_files.specs.Files.{Ensured, Path, SameFiles, Trees}
use Rattle.gixobj_editor_files.specs.OpeningStops.{StopsOpening, IsEnteredOnPath, IsUnopenedAbove}
use Rattle.gixobj_editor_files.specs.Opening.{Dirs, IsOpened, OpenFiles}
use Rattle.gixobj_editor_files.specs.State.{State, open_dirs}
use Rattle.gixobj_editor_files.specs.Unopened.{with_empty_name}
use Rattle.gixobj_editor_files.proofs.BelowPrefix.{open_of_longer_open}
use Rattle.gixobj_editor_files.proofs.CursorFiles.{ensured_dirs_files}
use Rattle.gixobj_editor_files.proofs.StoppedOpenings.{halted_at, halted_unopened}
use Rattle.gixobj_editor_files.proofs.OpenPrefixes.{ensured_dirs_open_path}
use Rattle.gixobj_editor_files.proofs.StillOpenedEnsured.{is_opened_ensured}
use Rattle.gixobj_editor_files.proofs.StillOpenedOpenings.{is_opened_of_opens, opens_keeps_open_lists}
use Rattle.gixobj_editor_files.proofs.UnopenedCounts.{requested_count}
use Rattle.gixobj_hash.specs.Hash.{null_id}
use Rattle.gixobj_hash.specs.declared.hash.kind.Kind.{Kind}
use Rattle.gixobj_hash.specs.declared.hash.object_id.ObjectId.{ObjectId}
use Rattle.gixobj_tree_entries.specs.Entries.{EntryView}
use Rattle.gixobj_tree.specs.WellFormed.{IsEntryName}
use Rattle.gixobj_editor.specs.Cursors.{IsEnsured, IsCursorError}
use Rattle.gixobj_editor_lookups.specs.EditNames.{IsFirstNameError}
use Rattle.gixobj_editor_lookups.specs.FailedOpenings.{edit_error}
use Rattle.gixobj_editor_lookups.specs.declared.error.Error.{Error}
use Rattle.gixobj_editor_lookups.specs.declared.error.Error.TheVariants as error
use Rattle.gixobj_editor_lookups.proofs.ValidNames.{no_other_error}
use Rattle.gixobj_editor.proofs.Edited.{EditedSo, OpenedOn, OpenedSo, map_is_opened, no_tree_is_idle, map_dirs_at, edited_bases_of_map, tree_known_above}
use Rattle.gixobj_editor.proofs.Edited.{map_bases, map_dirs, map_is_opened_on, map_dirs_eq, state_of}
use Rattle.gixobj_editor_files.proofs.Calls.{ensured_based}
use Rattle.gixobj_editor_lookups.proofs.Paths.{prefix_extends}

pub is_opened_after_ensured : (path : Path) (null : ObjectId) (mid ds : Opened) → AllByRecursion IsEntryName path → IsOpened (dirs_of mid)
    → ((at : Path) → dirs_of ds at ≡ ensured_dirs path null (dirs_of mid) at) → IsOpened (dirs_of ds)
is_opened_after_ensured path null mid ds names all ensured = subst (λ (d : Dirs). IsOpened d) (sym (λ i at. ensured at i))
    (is_opened_ensured path null (dirs_of mid) names all)

-- the directory at the path is open then
pub ensured_path_is_open : (path : Path) (null : ObjectId) (mid ds : Opened) → ((at : Path) → dirs_of ds at ≡ ensured_dirs path null (dirs_of mid) at)
    → (named : Path)
    → named ≡ path → map_dirs ds named ≢ None
ensured_path_is_open path null mid ds ensured named is = λ none. ensured_dirs_open_path path null (dirs_of mid)
    (sym (ensured path) ∙ sym (map_dirs_at ds path) ∙ subst (λ p. map_dirs ds p ≡ None) is none)

-- a directory that isn't open after an opening wasn't open before it
pub unopened_of_no_tree : {StopsBefore : EntryView → Type 0} (trees : Trees) (path : Path) (old new : Dirs) (queries : List ObjectId)
    → Opens StopsBefore trees path old new queries → (at : Path) → new at ≡ None → old at ≡ None
unopened_of_no_tree trees path old new queries opens at none =
    elim (old at) as (λ o. old at ≡ o → o ≡ None) [
      | None ↦ λ is. refl
      | Some entries ↦ λ is. let bad : Some entries ≡ None = sym (opens_keeps_open_lists trees path old new queries opens at entries is)
          ∙ none in absurd (cc bad)
    ] refl

-- below a directory that isn't open none is open
dirs_none_below_unopened : (path : Path) (dirs : Dirs) → IsOpened dirs → (parent more : Path) → path ≡ parent ++ more → dirs parent ≡ None → dirs path ≡ None
dirs_none_below_unopened path dirs all parent more is none =
    elim (dirs path) as (λ o. dirs path ≡ o → o ≡ None) [
      | None ↦ λ _. refl
      | Some entries ↦ λ there. absurd
          (open_of_longer_open dirs all parent more
          (subst (λ p. dirs p ≢ None) is (λ unopened. let bad : Some entries ≡ None = sym there ∙ unopened in cc bad)) none)
    ] refl

-- the root is open, so that a directory that isn't open has names
pub path_not_nil : (path : Path) (dirs : Dirs) → IsOpened dirs → dirs path ≡ None → path ≢ []
path_not_nil path dirs all unopened none = all.root (subst (λ p. dirs p ≡ None) none unopened)

-- the error of an invalid name
pub cursor_error_of_name : (objects : Objects) (may_fail : ObjectId → Bool) (trees : Trees) (dirs : Dirs) (path : Path) (failure : Error)
    → IsFirstNameError path failure → IsCursorError objects may_fail trees dirs path failure
cursor_error_of_name objects may_fail trees dirs path error.EmptyPathComponent h = h
cursor_error_of_name objects may_fail trees dirs path error.SlashInPathComponent h = h
cursor_error_of_name objects may_fail trees dirs path (error.FindExistingObject cause) h =
    absurd (no_other_error path (error.FindExistingObject cause) (λ name k. k) h)
cursor_error_of_name objects may_fail trees dirs path (error.CannotRemoveNonLeaf at) h =
    absurd (no_other_error path (error.CannotRemoveNonLeaf at) (λ name k. k) h)
cursor_error_of_name objects may_fail trees dirs path error.MalformedTree h = absurd (no_other_error path error.MalformedTree (λ name k. k) h)
cursor_error_of_name objects may_fail trees dirs path error.OutOfMemory h = absurd (no_other_error path error.OutOfMemory (λ name k. k) h)

module _ {S : Type 0} (store : S) (hash : Kind) (prefix : Path) (trees : Trees) where
  abbrev made : Opened → ℕ → State S
  made ds n = state_of store hash prefix ds n

  is_ensured_of_opens : (ds mid ds' : Opened) (n m : ℕ) (path : Path) (queries : List ObjectId) → AreNames path
      → Opens IsNoTree trees path (dirs_of ds) (dirs_of mid) queries
      → ((at : Path) → dirs_of ds' at ≡ ensured_dirs path (null_id hash) (dirs_of mid) at)
      → m ≡ counted n queries
      → OpenedOn ds → OpenedSo ds mid → EditedSo mid ds' → IsEnsured trees (made ds n) path (state_of store hash path ds' m)
  is_ensured_of_opens ds mid ds' n m path queries names opens ensured count was first then =
      let opened : Opens IsNoTree trees path (map_dirs ds) (dirs_of mid) queries =
      subst (λ (d : Dirs). Opens IsNoTree trees path d (dirs_of mid) queries)
      (sym (map_dirs_eq ds)) opens in
      let new_is : map_dirs ds' ≡ ensured_dirs path (null_id hash) (dirs_of mid) = λ i at. (map_dirs_at ds' at ∙ ensured at) i in
      record {
        names = names;
        opened = dirs_of mid;
        looked_up = queries;
        opens = opened;
        dirs = λ at. map_dirs_at ds' at ∙ ensured at;
        bases = edited_bases_of_map ds mid ds' first then;
        lookups = count ∙ ap (raised n) (requested_count trees no_tree_is_idle path [] (map_dirs ds) (dirs_of mid) queries opened);
        rest = refl;
        is_opened = map_is_opened ds' (is_opened_after_ensured path (null_id hash) mid ds' (recursion_from_All IsEntryName path names)
            (is_opened_of_opens trees path (dirs_of ds) (dirs_of mid) queries opens was.opened) ensured);
        known = tree_known_above no_tree_is_idle trees (with_empty_name path) path [] refl (map_dirs ds) (dirs_of mid) queries opened;
        files = λ T k agrees. subst (λ (d : Dirs). SameFiles (OpenFiles T k d) (Ensured path (OpenFiles T k (map_dirs ds)))) (sym new_is)
            (ensured_dirs_files T trees agrees path (null_id hash) (map_dirs ds) (dirs_of mid) queries opened k);
        has_bases = λ T agrees has. ensured_based T trees hash (map_dirs ds) (map_bases ds) (map_dirs ds') (map_bases ds')
            (map_is_opened_on ds was) agrees has path
            (dirs_of mid) queries opened (λ at. map_dirs_at ds' at ∙ ensured at) (edited_bases_of_map ds mid ds' first then);
      }

  pub ensured_at : (ds mid ds' : Opened) (n m : ℕ) (old : State S) → made ds n ≡ old → (path : Path) (queries : List ObjectId) → AreNames path
      → Opens IsNoTree trees path (dirs_of ds) (dirs_of mid) queries
      → ((at : Path) → dirs_of ds' at ≡ ensured_dirs path (null_id hash) (dirs_of mid) at) → m ≡ counted n queries → OpenedOn ds → OpenedSo ds mid
      → EditedSo mid ds' → (named : Path) → named ≡ path → IsEnsured trees old path (state_of store hash named ds' m)
  ensured_at ds mid ds' n m old view path queries names opens ensured count was first then named is =
      subst (λ (p : Path). IsEnsured trees old path (state_of store hash p ds' m)) (sym is)
      (subst (λ (o : State S). IsEnsured trees o path (state_of store hash path ds' m)) view
      (is_ensured_of_opens ds mid ds' n m path queries names opens ensured count was first then))

  -- the error of an opening that halts
  pub rejects_at : (objects : Objects) (may_fail : ObjectId → Bool) (ds ds' : Opened) (n : ℕ) (old : State S) → made ds n ≡ old → (path : Path)
      → AreNames path
      → IsOpened (dirs_of ds) → (queries : List ObjectId) (failed_lookup : Option ObjectId) → StopsOpening IsNoTree trees path (dirs_of ds)
      (dirs_of ds') queries failed_lookup
      → (cause : directory.Error) → IsOpenErrorAt objects may_fail failed_lookup cause → IsCursorError objects may_fail trees (open_dirs old) path
      (edit_error cause)
  rejects_at objects may_fail ds ds' n old view path names all queries failed_lookup halts cause at =
      subst (λ (o : State S). IsCursorError objects may_fail trees (open_dirs o) path (edit_error cause)) view
      (subst (λ (d : Dirs). IsCursorError objects may_fail trees d path (edit_error cause)) (sym (map_dirs_eq ds)) (by_cause cause failed_lookup halts at))
    where
      above : (v : Option ObjectId) → StopsOpening IsNoTree trees path (dirs_of ds) (dirs_of ds') queries v → (it : ObjectId) → v ≡ Some it
          → IsUnopenedAbove trees (dirs_of ds) (with_empty_name path) it
      above v h it some = (halted_at trees path [] [] (dirs_of ds) (dirs_of ds') queries v h it some).0

      unopened_at : IsEnteredOnPath IsNoTree trees (dirs_of ds) (with_empty_name path) → dirs_of ds path ≡ None
      unopened_at h = let begins = prefix_extends path [] h.parent h.above.2 h.above.3 h.above.5 in dirs_none_below_unopened path
          (dirs_of ds) all h.parent begins.0 begins.1 h.not_open

      by_cause : (why : directory.Error) (v : Option ObjectId) → StopsOpening IsNoTree trees path (dirs_of ds) (dirs_of ds') queries v
          → IsOpenErrorAt objects may_fail v why → IsCursorError objects may_fail trees (dirs_of ds) path (edit_error why)
      by_cause opening.OutOfMemory v h r =
          (names, path_not_nil path (dirs_of ds) all (unopened_at (halted_unopened trees path [] [] (dirs_of ds) (dirs_of ds') queries v h)))
      by_cause opening.MalformedTree None h r = absurd (cc r)
      by_cause opening.MalformedTree (Some it) h r = (names, (it, above (Some it) h it refl, r))
      by_cause (opening.FindExistingObject why) None h r = absurd (cc r)
      by_cause (opening.FindExistingObject why) (Some it) h r = (names, (it, above (Some it) h it refl, r))

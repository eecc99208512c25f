-- The record of a removal follows from its effect on the open directories; the proofs of `try_remove` and
-- `try_remove_leaf` use it.
use Rattle.std.proofs.Common.{◌≡◌, ◌∙◌, inl, inr, ℕ, List, [], ◌∷◌, ◌++◌, Some, refl, sym, ap, subst, length, arith}
use Rattle.gixobj_tree_entries.specs.Entries.{EntryView}
use Rattle.gixobj_hash.specs.declared.hash.kind.Kind.{Kind}
use Rattle.gixobj_hash.specs.declared.hash.object_id.ObjectId.{ObjectId}
use Rattle.gixobj_editor_open.specs.Nested.{Opened, dirs_of}
use Rattle.gixobj_editor_files.specs.Edits.{IsNotLookedUp, Opens, arrived, counted, down, entry_at, found, removed_dirs, stops, raised}
use Rattle.gixobj_editor_files.specs.Files.{Path, Removed, SameFiles, Table, Trees}
use Rattle.gixobj_editor_files.specs.OpeningStops.{IsUnopenedAbove}
use Rattle.gixobj_editor_files.specs.Opening.{Dirs, IsOpened, OpenFiles}
use Rattle.gixobj_editor_files.specs.State.{State, open_dirs}
use Rattle.gixobj_editor_files.specs.Unopened.{looked_up_entry, unopened_count}
use Rattle.gixobj_editor_files.proofs.ReachedDirectories.{opens_reached, known_after}
use Rattle.gixobj_editor_files.proofs.EditedFiles.{removed_congruent, same_files_trans}
use Rattle.gixobj_editor_files.proofs.OpeningFiles.{opens_keeps_files}
use Rattle.gixobj_editor_files.proofs.RemovedFiles.{IsReached, removed_dirs_files}
use Rattle.gixobj_editor_files.proofs.StillOpenedOpenings.{is_opened_of_opens}
use Rattle.gixobj_editor_files.proofs.StillOpenedRemovals.{is_opened_removed}
use Rattle.gixobj_editor_files.proofs.UnopenedCounts.{IsIdle, requested_count}
use Rattle.gixobj_editor_lookups.specs.EditNames.{directory_of}
use Rattle.gixobj_editor_lookups.specs.FailedOpenings.{IsLookupError}
use Rattle.gixobj_editor.specs.FailedEdits.{IsAfterFailedEdit}
use Rattle.gixobj_editor_lookups.specs.declared.error.Error.{Error}
use Rattle.gixobj_editor_lookups.specs.declared.error.Error.TheVariants as error
use Rattle.gixobj_store.specs.Stores.{StoreModel}
use Rattle.gixobj_editor_lookups.specs.RemovalErrors.{IsLeafDirectoryError}
use Rattle.gixobj_editor.specs.Removals.{IsRemovedUpTo}
use Rattle.gixobj_editor.proofs.Edited.{EditedSo, OpenedOn, OpenedSo, map_is_opened, edited_bases_of_map, tree_known_above, map_bases, map_dirs, no_error_above}
use Rattle.gixobj_editor.proofs.Edited.{map_is_opened_on, map_dirs_eq, state_of, stay_at}
use Rattle.gixobj_editor_lookups.proofs.OpeningSteps.{ends_before_is_idle}
use Rattle.gixobj_editor_lookups.specs.Openings.{EndsBefore}
use Rattle.gixobj_editor_lookups.specs.declared.opening.NotLookedUp.{NotLookedUp}
use Rattle.gixobj_editor_files.proofs.Calls.{removed_based}
use Rattle.gixobj_editor_lookups.proofs.InPart.{prefix_in_part}
use Rattle.gixobj_editor_lookups.proofs.Paths.{directory_is_prefix, directory_of_snoc}
use Rattle.gixobj_editor_lookups.proofs.Removing.{IsOpenedFor, path_nil_or_snoc}

no_queries_of_nil_path : {StopsBefore : EntryView → Type 0} (trees : Trees) (p : Path) → p ≡ [] → (old new : Dirs) (queries : List ObjectId)
    → Opens StopsBefore trees p old new queries → length queries ≡ 0
no_queries_of_nil_path trees p none old new queries (arrived d) = refl
no_queries_of_nil_path trees p none old new queries (stops name rest d other unopened) = refl
no_queries_of_nil_path trees p none old new queries (down name rest d inner e entries more has named is below) = absurd (cc none)
no_queries_of_nil_path trees p none old new queries (found name rest d inner e entries first more entry tree free unopened finds below) = absurd (cc none)

pub is_opened_after_removal : (path : Path) (mid ds : Opened) → IsOpened (dirs_of mid) → ((at : Path) → dirs_of ds at ≡ removed_dirs path (dirs_of mid) at)
    → IsOpened (dirs_of ds)
is_opened_after_removal path mid ds all taken = subst (λ (d : Dirs). IsOpened d) (sym (λ i at. taken at i)) (is_opened_removed path (dirs_of mid) all)

-- the opening for the removal of a leaf ends only before an entry that isn't looked up
pub not_looked_up_is_idle : IsIdle IsNotLookedUp
not_looked_up_is_idle e idle = idle

-- what the opening of the directories above a path says of the entire path
module _ {StopsBefore : EntryView → Type 0} (idle : IsIdle StopsBefore) (trees : Trees) (path : Path) (old new : Dirs) (queries : List ObjectId)
    (opens : Opens StopsBefore trees (directory_of path) old new queries) where
  along : (head : Path) (last : List ℕ) → path ≡ head ++ last ∷ [] → Opens StopsBefore trees head old new queries
  along head last is = subst (λ p. Opens StopsBefore trees p old new queries) (ap directory_of is ∙ directory_of_snoc head last) opens

  count_above : length queries ≡ unopened_count trees old path
  count_above = elim (path_nil_or_snoc path) [
    | inl none ↦ no_queries_of_nil_path trees (directory_of path) (ap directory_of none) old new queries opens ∙ sym (ap (unopened_count trees old) none)
    | inr ends ↦ requested_count trees idle ends.0 ends.1 old new queries (along ends.0 ends.1 ends.2) ∙ ap (unopened_count trees old) (sym ends.2)
  ]

  reached_above : (T : Table) → IsReached T path new
  reached_above T = elim (path_nil_or_snoc path) [
    | inl none ↦ subst (λ p. IsReached T p new) (sym none) tt
    | inr ends ↦ subst (λ p. IsReached T p new) (sym ends.2) (opens_reached idle trees T ends.0 ends.1 old new queries (along ends.0 ends.1 ends.2))
  ]

  all_known : (it : ObjectId) → IsUnopenedAbove trees old path it → (entries : List EntryView) × (trees it ≡ Some entries)
  all_known it h = elim (path_nil_or_snoc path) [
    | inl none ↦ absurd (no_error_above trees old it (subst (λ p. IsUnopenedAbove trees old p it) none h))
    | inr ends ↦ tree_known_above idle trees path ends.0 ends.1 ends.2 old new queries (along ends.0 ends.1 ends.2) it h
  ]

  known_same : entry_at path new ≡ looked_up_entry trees path old
  known_same = elim (path_nil_or_snoc path) [
    | inl none ↦ subst (λ p. entry_at p new ≡ looked_up_entry trees p old) (sym none) refl
    | inr ends ↦ subst (λ p. entry_at p new ≡ looked_up_entry trees p old) (sym ends.2)
        (known_after idle trees ends.0 ends.1 old new queries (along ends.0 ends.1 ends.2))
  ]

-- the error for a directory at the path isn't one of a lookup
pub no_lookup_of_leaf : (path : Path) (failure : Error) → IsLeafDirectoryError path failure → ¬ IsLookupError failure
no_lookup_of_leaf path error.EmptyPathComponent h = λ it. it
no_lookup_of_leaf path error.SlashInPathComponent h = λ it. it
no_lookup_of_leaf path (error.FindExistingObject cause) h = absurd h
no_lookup_of_leaf path (error.CannotRemoveNonLeaf at) h = λ it. it
no_lookup_of_leaf path error.MalformedTree h = absurd h
no_lookup_of_leaf path error.OutOfMemory h = λ it. it

module _ {S : Type 0} (store : S) (hash : Kind) (prefix : Path) (trees : Trees) (it : NotLookedUp) where
  abbrev made : Opened → ℕ → State S
  made ds n = state_of store hash prefix ds n

  abbrev StopsBefore : EntryView → Type 0
  StopsBefore = EndsBefore it

  idle : IsIdle StopsBefore
  idle = ends_before_is_idle it

  -- the directories of an editor's map in place of the owned ones
  for_map : (ds : Opened) (new : Dirs) (path : Path) (queries : List ObjectId) → IsOpenedFor StopsBefore trees path (dirs_of ds) new queries
      → IsOpenedFor StopsBefore trees path (map_dirs ds) new queries
  for_map ds new path queries opened = subst (λ (d : Dirs). IsOpenedFor StopsBefore trees path d new queries) (sym (map_dirs_eq ds)) opened

  taken_out : (ds mid ds' : Opened) (n m : ℕ) (path : Path) (queries : List ObjectId) → IsOpenedFor StopsBefore trees path (dirs_of ds) (dirs_of mid) queries
      → m ≡ counted n queries → ((at : Path) → dirs_of ds' at ≡ removed_dirs path (dirs_of mid) at)
      → OpenedOn ds → OpenedSo ds mid → EditedSo mid ds' → IsRemovedUpTo StopsBefore trees (made ds n) path (made ds' m)
  taken_out ds mid ds' n m path queries opened count take was first then =
      let so = for_map ds (dirs_of mid) path queries opened in
      let new_is : map_dirs ds' ≡ removed_dirs path (dirs_of mid) = map_dirs_eq ds' ∙ (λ i at. take at i) in
      record {
        names = so.1;
        opened = dirs_of mid;
        looked_up = queries;
        opens = so.0;
        dirs = λ at. ap (λ (d : Dirs). d at) new_is;
        bases = edited_bases_of_map ds mid ds' first then;
        lookups = count ∙ ap (raised n) (count_above idle trees path (map_dirs ds) (dirs_of mid) queries so.0);
        rest = refl;
        is_opened = map_is_opened ds' (is_opened_after_removal path mid ds'
            (is_opened_of_opens trees (directory_of path) (dirs_of ds) (dirs_of mid) queries opened.0 was.opened)
            take);
        known = all_known idle trees path (map_dirs ds) (dirs_of mid) queries so.0;
        files = λ T k agrees. subst (λ (d : Dirs). SameFiles (OpenFiles T k d) (Removed path (OpenFiles T k (map_dirs ds)))) (sym new_is)
            (same_files_trans _ _ _ (removed_dirs_files T k path (dirs_of mid) (reached_above idle trees path (map_dirs ds) (dirs_of mid) queries so.0 T))
            (removed_congruent path (OpenFiles T k (dirs_of mid)) (OpenFiles T k (map_dirs ds))
            (opens_keeps_files T trees agrees (directory_of path) (map_dirs ds) (dirs_of mid) queries so.0 k)));
        has_bases = λ T agrees has. removed_based T trees hash (map_dirs ds) (map_bases ds) (map_dirs ds') (map_bases ds') (map_is_opened_on ds was) agrees has
            (directory_of path) path (dirs_of mid) queries so.0 (λ at. ap (λ (d : Dirs). d at) new_is) (edited_bases_of_map ds mid ds' first then);
      }

  pub removed_at : (ds mid ds' : Opened) (n m : ℕ) (old : State S) → made ds n ≡ old → (path : Path) (queries : List ObjectId)
      → IsOpenedFor StopsBefore trees path (dirs_of ds) (dirs_of mid) queries → m ≡ counted n queries
      → ((at : Path) → dirs_of ds' at ≡ removed_dirs path (dirs_of mid) at) → OpenedOn ds → OpenedSo ds mid → EditedSo mid ds'
      → IsRemovedUpTo StopsBefore trees old path (made ds' m)
  removed_at ds mid ds' n m old view path queries opened count take was first then =
      subst (λ (o : State S). IsRemovedUpTo StopsBefore trees o path (made ds' m)) view
      (taken_out ds mid ds' n m path queries opened count take was first then)

  -- the entry at the path, before and after the opening
  pub known_at : (ds mid : Opened) (n : ℕ) (old : State S) → made ds n ≡ old → (path : Path) (queries : List ObjectId)
      → IsOpenedFor StopsBefore trees path (dirs_of ds) (dirs_of mid) queries → entry_at path (dirs_of mid) ≡ looked_up_entry trees path (open_dirs old)
  known_at ds mid n old view path queries opened = subst (λ (o : State S). entry_at path (dirs_of mid) ≡ looked_up_entry trees path (open_dirs o))
      view
      (known_same idle trees path (map_dirs ds) (dirs_of mid) queries (for_map ds (dirs_of mid) path queries opened).0)

  -- directories are opened, and then the removal fails without another lookup
  pub rejected_at : (model : StoreModel S) (ds mid : Opened) (n m : ℕ) (old : State S) → made ds n ≡ old → (path : Path) (queries : List ObjectId)
      → IsOpenedFor StopsBefore trees path (dirs_of ds) (dirs_of mid) queries → m ≡ counted n queries
      → (failure : Error) → (¬ IsLookupError failure) → OpenedOn ds → OpenedSo ds mid → IsAfterFailedEdit model trees old path failure (made mid m)
  rejected_at model ds mid n m old view path queries opened count failure other =
      let same = count_above idle trees path (dirs_of ds) (dirs_of mid) queries opened.0 in
      let begins = directory_is_prefix path in
      stay_at store hash prefix trees model it ds mid n m old view path failure
      (prefix_in_part (model.objects store) (model.may_fail store) trees path (directory_of path) begins.0 begins.1 (dirs_of ds) (dirs_of mid) queries
      opened.0 (omega (arith, same)) n m count failure other)

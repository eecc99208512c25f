-- The invariant of open directories and their bases holds after each call; the proofs of the editor's calls use it.
use Rattle.std.proofs.Common.{◌≡◌, ◌≢◌, ◌∙◌, ℕ, Bool, List, [], ◌∷◌, ◌++◌, Option, None, Result, Ok, Err, refl, sym, ap, subst}
use Rattle.std.specs.Prelude.{IfOk, OnErr}
use Rattle.std.proofs.lemmas.List.Elements.{recursion_from_All}
use Rattle.gixobj_tree_entries.specs.Entries.{EntryView}
use Rattle.gixobj_tree.specs.WellFormed.{IsEntryName, IsWellFormed}
use Rattle.gixobj_hash.specs.Hash.{null_id}
use Rattle.gixobj_hash.specs.declared.hash.kind.Kind.{Kind}
use Rattle.gixobj_hash.specs.declared.hash.kind.Kind.TheVariants as hash
use Rattle.gixobj_hash.specs.declared.hash.object_id.ObjectId.{ObjectId}
use Rattle.gixobj_editor_write.specs.Calls.{AreNames, IsStorable}
use Rattle.gixobj_editor_open.specs.Nested.{Opened, bases_of, dirs_of, opened}
use Rattle.gixobj_editor_open.proofs.BaseSteps.{base_none_where_unopened}
use Rattle.gixobj_editor_open.proofs.Steps.{dirs_of_childless}
use Rattle.gixobj_editor_files.specs.Bases.{base_edited, edited_bases, opened_bases}
use Rattle.gixobj_editor_files.specs.Edits.{IsNoTree, Opens, ensured_dirs, only_open, removed_dirs, upserted_dirs, with_path}
use Rattle.gixobj_editor_files.specs.Files.{Path, Trees}
use Rattle.gixobj_editor_files.specs.OpeningStops.{StopsOpening}
use Rattle.gixobj_editor_files.specs.Opening.{Dirs}
use Rattle.gixobj_editor_files.proofs.Calls.{ensured_null_based, are_null_based_of_none, opened_null_based, removed_null_based, upserted_null_based}
use Rattle.gixobj_editor_files.proofs.Calls.{written_null_based}
use Rattle.gixobj_editor_files.proofs.StoppedOpenings.{halts_opens}
use Rattle.gixobj_editor_files.proofs.StillOpenedOpenings.{is_opened_of_opens}
use Rattle.gixobj_store.specs.Stores.{Objects}
use Rattle.gixobj_editor_lookups.specs.FailedOpenings.{OpensInPart}
use Rattle.gixobj_editor_lookups.specs.declared.error.Error.{Error}
use Rattle.gixobj_editor.proofs.EnsuredAt.{is_opened_after_ensured}
use Rattle.gixobj_editor.proofs.Edited.{EditedSo, OpenedOn, OpenedSo, is_opened_after_upsert}
use Rattle.gixobj_editor.proofs.RemovedAt.{is_opened_after_removal}
use Rattle.gixobj_editor.proofs.RootAlone.{root_alone_is_opened}
use Rattle.gixobj_editor.proofs.WrittenBelow.{is_opened_after_write}

-- the bases after directories were opened, and then edited
bases_of_opened_then_edited : (ds mid ds' : Opened) → OpenedSo ds mid → EditedSo mid ds' → (at : Path)
    → bases_of ds' at ≡ edited_bases (dirs_of mid) (dirs_of ds') (opened_bases (dirs_of ds) (dirs_of mid) (bases_of ds)) at
bases_of_opened_then_edited ds mid ds' first then at = then at ∙ ap (λ b. base_edited (dirs_of mid at) (dirs_of ds' at) b) (first at)

-- the root alone is open
bases_of_opened_below_root : (root base : List EntryView) (name : List ℕ) (path : Path) → bases_of (opened root base []) (name ∷ path) ≡ None
bases_of_opened_below_root root base name path = base_none_where_unopened (opened root base []) (name ∷ path)
    (ap (λ (d : Dirs). d (name ∷ path)) (dirs_of_childless root))

pub root_opened_on : (ds : Opened) (root base : List EntryView) → ds ≡ opened root base [] → IsWellFormed root → OpenedOn ds
root_opened_on ds root base is formed =
    subst OpenedOn (sym is) (record {
      opened = root_alone_is_opened (opened root [] []) root refl formed;
      null_based = are_null_based_of_none (dirs_of (opened root base [])) (bases_of (opened root base [])) (bases_of_opened_below_root root base);
    })

module _ (trees : Trees) (ds mid : Opened) (first : OpenedSo ds mid) (was : OpenedOn ds) where
  -- the invariant after directories were opened
  pub opened_on : {StopsBefore : EntryView → Type 0} (path : Path) (queries : List ObjectId) → Opens StopsBefore trees path (dirs_of ds) (dirs_of mid) queries
      → OpenedOn mid
  opened_on path queries opens = record {
    opened = is_opened_of_opens trees path (dirs_of ds) (dirs_of mid) queries opens was.opened;
    null_based = opened_null_based trees hash.Sha1 (dirs_of ds) (bases_of ds) (dirs_of mid) (bases_of mid) was path queries opens first;
  }

  pub in_part_on : {StopsBefore : EntryView → Type 0} (objects : Objects) (may_fail : ObjectId → Bool) (path : Path) (n m : ℕ) (failure : Error)
      → OpensInPart StopsBefore objects may_fail trees path (dirs_of ds) (dirs_of mid) n m failure → OpenedOn mid
  in_part_on objects may_fail path n m failure so = opened_on so.reached so.looked_up so.opens

  pub halted_on : {StopsBefore : EntryView → Type 0} (path : Path) (queries : List ObjectId) (failed_lookup : Option ObjectId)
      → StopsOpening StopsBefore trees path (dirs_of ds) (dirs_of mid) queries failed_lookup → OpenedOn mid
  halted_on path queries failed_lookup halts = let came = halts_opens trees path (dirs_of ds) (dirs_of mid) queries failed_lookup halts in
      opened_on came.0 came.2 came.5

  -- the invariant after directories were opened and edited
  module _ (ds' : Opened) (then : EditedSo mid ds') where
    pub inserted_on : (kind : Kind) (path head : Path) (last : List ℕ) → path ≡ head ++ last ∷ [] → AreNames path
        → (mode : ℕ) (id : ObjectId) (queries : List ObjectId)
        → Opens IsNoTree trees head (dirs_of ds) (dirs_of mid) queries
        → ((at : Path) → dirs_of ds' at ≡ upserted_dirs path mode id (null_id kind) (dirs_of mid) at) → OpenedOn ds'
    inserted_on kind path head last is names mode id queries opens insert_entry = record {
      opened = is_opened_after_upsert path mode id (null_id kind) mid ds' (recursion_from_All IsEntryName path names)
          (opened_on head queries opens).opened insert_entry;
      null_based = upserted_null_based trees kind (dirs_of ds) (bases_of ds) (dirs_of ds') (bases_of ds') was head last mode id (dirs_of mid) queries opens
          (λ at. insert_entry at ∙ ap (λ p. upserted_dirs p mode id (null_id kind) (dirs_of mid) at) is) (bases_of_opened_then_edited ds mid ds' first then);
    }

    pub ensured_on : (kind : Kind) (path : Path) → AreNames path → (queries : List ObjectId) → Opens IsNoTree trees path (dirs_of ds) (dirs_of mid) queries
        → ((at : Path) → dirs_of ds' at ≡ ensured_dirs path (null_id kind) (dirs_of mid) at) → OpenedOn ds'
    ensured_on kind path names queries opens ensured = record {
      opened = is_opened_after_ensured path (null_id kind) mid ds' (recursion_from_All IsEntryName path names) (opened_on path queries opens).opened ensured;
      null_based = ensured_null_based trees kind (dirs_of ds) (bases_of ds) (dirs_of ds') (bases_of ds') was path (dirs_of mid) queries opens ensured
          (bases_of_opened_then_edited ds mid ds' first then);
    }

    pub taken_on : {StopsBefore : EntryView → Type 0} (head path : Path) (queries : List ObjectId)
        → Opens StopsBefore trees head (dirs_of ds) (dirs_of mid) queries
        → ((at : Path) → dirs_of ds' at ≡ removed_dirs path (dirs_of mid) at) → OpenedOn ds'
    taken_on head path queries opens taken = record {
      opened = is_opened_after_removal path mid ds' (opened_on head queries opens).opened taken;
      null_based = removed_null_based trees hash.Sha1 (dirs_of ds) (bases_of ds) (dirs_of ds') (bases_of ds') was head path (dirs_of mid) queries opens taken
          (bases_of_opened_then_edited ds mid ds' first then);
    }

-- the invariant after a write
pub written_opened_on : {W X : Type 0} (result : Result W X) (ds ds' : Opened)
    → IfOk result (λ _. (written_tree : List EntryView) × IsStorable written_tree × ((base : List EntryView) × (ds' ≡ opened written_tree base [])))
    → OnErr result (ds' ≡ ds) → OpenedOn ds → OpenedOn ds'
written_opened_on (Ok it) ds ds' (written_tree, storable, remaining) unchanged was =
    root_opened_on ds' written_tree remaining.0 remaining.1 storable.well_formed
written_opened_on (Err error) ds ds' ok unchanged was = subst OpenedOn (sym unchanged) was

-- the invariant after a write of a directory at a prefix
abbrev pub IsWrittenSo : Path → Opened → Opened → Type 0
IsWrittenSo prefix ds ds' = (written_tree : List EntryView) × IsStorable written_tree
    × ((at : Path) → dirs_of ds' at ≡ with_path prefix (only_open written_tree) (dirs_of ds) at)
    × EditedSo ds ds'

pub written_below_opened_on : {W X : Type 0} (result : Result W X) (prefix : Path) (ds ds' : Opened) → IfOk result (λ _. IsWrittenSo prefix ds ds')
    → OnErr result (ds' ≡ ds) → dirs_of ds prefix ≢ None
    → OpenedOn ds → OpenedOn ds'
written_below_opened_on (Ok it) prefix ds ds' (written_tree, storable, remaining, edited) unchanged there was = record {
  opened = is_opened_after_write prefix written_tree ds ds' was.opened there storable remaining;
  null_based = written_null_based (dirs_of ds) (bases_of ds) (dirs_of ds') (bases_of ds') was prefix written_tree there remaining edited;
}
written_below_opened_on (Err error) prefix ds ds' ok unchanged there was = subst OpenedOn (sym unchanged) was

-- A directory that is ensured keeps the invariant of open directories.
use Rattle.std.proofs.Common.{◌≡◌, ◌≢◌, inl, inr, true, false, cond, [], ◌∷◌, ◌++◌, sym, ap, subst, ◌∙◌, Some, None}
use Rattle.std.specs.Prelude.{IsTrue}
use Rattle.std.specs.List.{AllByRecursion}
use Rattle.gixobj_tree_entries.specs.Entries.{EntryView}
use Rattle.gixobj_tree.specs.WellFormed.{IsEntryName, IsWellFormed}
use Rattle.gixobj_tree_entries.specs.Mode.{is_tree_mode}
use Rattle.gixobj_hash.specs.declared.hash.object_id.ObjectId.{ObjectId}
use Rattle.gixobj_editor_files.specs.Editing.{same_name}
use Rattle.gixobj_editor_files.specs.Edits.{ensured_dirs, or_empty, with_directory}
use Rattle.gixobj_editor_files.specs.Files.{Path}
use Rattle.gixobj_editor_files.specs.Opening.{Dirs, HasAt, IsOpened, in_dir}
use Rattle.gixobj_editor_files.proofs.EnsuredFiles.{ensured_dirs_in_other_dir}
use Rattle.gixobj_editor_files.proofs.HasTrees.{is_well_formed_with_directory, entry_of_has_tree, has_tree_with_directory}
use Rattle.gixobj_editor_files.proofs.OpenedFiles.{name_eq_or_ne}
use Rattle.gixobj_editor_files.proofs.StillOpened.{AreAbove, AreFormed, is_well_formed_or_empty, some_unique}
use Rattle.gixobj_editor_files.proofs.UpsertedFiles.{has_with_directory, has_or_empty_of_has_at}

are_formed_ensured : (path : Path) (null : ObjectId) (dirs : Dirs) → AllByRecursion IsEntryName path → AreFormed dirs → AreFormed (ensured_dirs path null dirs)
are_formed_ensured [] null dirs names formed [] es is = subst IsWellFormed (some_unique _ _ is) (is_well_formed_or_empty (dirs []) (formed []))
are_formed_ensured [] null dirs names formed (first ∷ at) es is = formed (first ∷ at) es is
are_formed_ensured (name ∷ rest) null dirs names formed [] es is =
    subst IsWellFormed (some_unique _ _ is) (is_well_formed_with_directory name null (or_empty (dirs []))
    (is_well_formed_or_empty (dirs []) (formed [])) names.0)
are_formed_ensured (name ∷ rest) null dirs names formed (first ∷ at) es is =
    elim (same_name name first) as (λ b. cond b (ensured_dirs rest null (in_dir name dirs) at) (dirs (first ∷ at)) ≡ Some es → IsWellFormed es) [
      | true ↦ λ k. are_formed_ensured rest null (in_dir name dirs) names.1 (λ q. formed (name ∷ q)) at es k
      | false ↦ λ k. formed (first ∷ at) es k
    ] is

are_above_ensured : (path : Path) (null : ObjectId) (dirs : Dirs) → AreAbove dirs → AreAbove (ensured_dirs path null dirs)
are_above_ensured [] null dirs above [] other es is = let e = above [] other es is in (e.0, has_or_empty_of_has_at (dirs []) e.0 e.1, e.2, e.3)
are_above_ensured [] null dirs above (first ∷ at) other es is = above (first ∷ at) other es is
are_above_ensured (name ∷ rest) null dirs above [] other es is =
    elim (name_eq_or_ne name other) [
      | inl same ↦ let e = entry_of_has_tree name (with_directory name null (or_empty (dirs []))) (has_tree_with_directory name null (or_empty (dirs []))) in
          (e.0, e.1, e.2 ∙ same, e.3)
      | inr differ ↦ let e = above [] other es (sym (ap (λ (d : Dirs). d []) (ensured_dirs_in_other_dir name other rest null dirs differ)) ∙ is) in
          (e.0, has_with_directory name null (or_empty (dirs [])) e.0 (λ q. differ (sym q ∙ e.2)) (has_or_empty_of_has_at (dirs []) e.0 e.1), e.2, e.3)
    ]
are_above_ensured (name ∷ rest) null dirs above (first ∷ at) other es is =
    elim (same_name name first) as (λ b. cond b (ensured_dirs rest null (in_dir name dirs) (at ++ other ∷ [])) (dirs (first ∷ (at ++ other ∷ []))) ≡ Some es
    → (e : EntryView) × HasAt (cond b (ensured_dirs rest null (in_dir name dirs) at) (dirs (first ∷ at))) e × (e.name ≡ other) × IsTrue (is_tree_mode e.mode)) [
      | true ↦ λ k. are_above_ensured rest null (in_dir name dirs) (λ q. above (name ∷ q)) at other es k
      | false ↦ λ k. above (first ∷ at) other es k
    ] is

pub is_opened_ensured : (path : Path) (null : ObjectId) (dirs : Dirs) → AllByRecursion IsEntryName path → IsOpened dirs → IsOpened (ensured_dirs path null dirs)
is_opened_ensured path null dirs names opened = record {
  root = root_still path;
  well_formed = are_formed_ensured path null dirs names opened.well_formed;
  above = are_above_ensured path null dirs opened.above;
}
  where
    root_still : (p : Path) → ensured_dirs p null dirs [] ≢ None
    root_still [] = λ e. cc e
    root_still (name ∷ rest) = λ e. cc e

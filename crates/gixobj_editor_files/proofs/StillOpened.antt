-- An upsert keeps the invariant of open directories: each is well-formed, and the one above it has an entry of tree
-- mode for it. `Everywhere` and the editor use it.
use Rattle.std.proofs.Common.{◌≡◌, ◌≢◌, inl, inr, ℕ, true, false, cond, List, [], ◌∷◌, ◌++◌, refl, sym, ap, subst, ◌∙◌, Option, Some, None}
use Rattle.std.specs.Prelude.{IsTrue}
use Rattle.std.specs.List.{AllByRecursion}
use Rattle.gixobj_tree_entries.specs.Entries.{EntryView}
use Rattle.gixobj_tree.specs.WellFormed.{IsEntryName, IsWellFormed}
use Rattle.gixobj_tree_entries.specs.Mode.{is_tree_mode}
use Rattle.gixobj_hash.specs.declared.hash.object_id.ObjectId.{ObjectId}
use Rattle.gixobj_editor_files.specs.Editing.{same_name}
use Rattle.gixobj_editor_files.specs.Edits.{or_empty, upserted_dirs, with_directory}
use Rattle.gixobj_editor_files.specs.Files.{Path}
use Rattle.gixobj_editor_files.specs.Opening.{Dirs, HasAt, IsOpened, in_dir}
use Rattle.gixobj_editor_files.proofs.EditedFiles.{has_with_entry_other}
use Rattle.gixobj_editor_files.proofs.WellFormedEdits.{is_well_formed_with_entry}
use Rattle.gixobj_editor_files.proofs.HasTrees.{is_well_formed_with_directory, entry_of_has_tree, has_tree_with_directory}
use Rattle.gixobj_editor_files.proofs.UpsertedFiles.{has_with_directory, has_or_empty_of_has_at, inserted_name_in_dir, inserted_name_in_other_dir}
use Rattle.gixobj_editor_files.proofs.UpsertedFiles.{upserted_dirs_in_other_dir}
use Rattle.gixobj_editor_files.proofs.OpenedFiles.{name_eq_or_ne}

abbrev pub AreFormed : Dirs → Type 0
AreFormed dirs = (path : Path) (entries : List EntryView) → dirs path ≡ Some entries → IsWellFormed entries

abbrev pub AreAbove : Dirs → Type 0
AreAbove dirs = (path : Path) (name : List ℕ) (entries : List EntryView) → dirs (path ++ name ∷ []) ≡ Some entries → (e : EntryView) × HasAt (dirs path) e
    × (e.name ≡ name) × IsTrue (is_tree_mode e.mode)

pub some_unique : {X : Type 0} (x y : X) → Some x ≡ Some y → x ≡ y
some_unique x y e = cc e

pub is_well_formed_or_empty : (o : Option (List EntryView)) → ((es : List EntryView) → o ≡ Some es → IsWellFormed es) → IsWellFormed (or_empty o)
is_well_formed_or_empty None h = record { names = tt; apart = tt; ascending = tt }
is_well_formed_or_empty (Some es) h = h es refl

pub are_formed_upserted : (path : Path) (mode : ℕ) (id null : ObjectId) (dirs : Dirs) → AllByRecursion IsEntryName path → AreFormed dirs
    → AreFormed (upserted_dirs path mode id null dirs)
are_formed_upserted [] mode id null dirs names formed at es is = formed at es is
are_formed_upserted (name ∷ []) mode id null dirs names formed [] es is =
    subst IsWellFormed (some_unique _ _ is) (is_well_formed_with_entry (record { mode = mode; name = name; id = id }) (or_empty (dirs []))
    (is_well_formed_or_empty (dirs []) (formed [])) names.0)
are_formed_upserted (name ∷ []) mode id null dirs names formed (first ∷ at) es is =
    elim (same_name name first) as (λ b. cond b None (dirs (first ∷ at)) ≡ Some es → IsWellFormed es)
    [ true ↦ λ k. absurd (cc k) | false ↦ λ k. formed (first ∷ at) es k ] is
are_formed_upserted (name ∷ next ∷ rest) mode id null dirs names formed [] es is =
    subst IsWellFormed (some_unique _ _ is) (is_well_formed_with_directory name null (or_empty (dirs []))
    (is_well_formed_or_empty (dirs []) (formed [])) names.0)
are_formed_upserted (name ∷ next ∷ rest) mode id null dirs names formed (first ∷ at) es is =
    elim (same_name name first) as (λ b. cond b (upserted_dirs (next ∷ rest) mode id null (in_dir name dirs) at) (dirs (first ∷ at)) ≡ Some es
    → IsWellFormed es) [
      | true ↦ λ k. are_formed_upserted (next ∷ rest) mode id null (in_dir name dirs) names.1 (λ q. formed (name ∷ q)) at es k
      | false ↦ λ k. formed (first ∷ at) es k
    ] is

pub are_above_upserted : (path : Path) (mode : ℕ) (id null : ObjectId) (dirs : Dirs) → AreAbove dirs → AreAbove (upserted_dirs path mode id null dirs)
are_above_upserted [] mode id null dirs above at other es is = above at other es is
are_above_upserted (name ∷ []) mode id null dirs above [] other es is =
    elim (name_eq_or_ne name other) [
      | inl same ↦ absurd (let gone : upserted_dirs (name ∷ []) mode id null dirs (other ∷ []) ≡ None = subst
          (λ n. upserted_dirs (name ∷ []) mode id null dirs (n ∷ []) ≡ None) same
          (ap (λ (d : Dirs). d []) (inserted_name_in_dir name mode id null dirs)) in let no_one : None ≡ Some es = sym gone ∙ is in cc no_one)
      | inr differ ↦ let e = above [] other es (sym (ap (λ (d : Dirs). d []) (inserted_name_in_other_dir name other mode id null dirs differ)) ∙ is) in (
        e.0,
        has_with_entry_other (record { mode = mode; name = name; id = id }) (or_empty (dirs [])) e.0 (has_or_empty_of_has_at (dirs []) e.0 e.1)
            (λ q. differ (sym q ∙ e.2)),
        e.2,
        e.3,
      )
    ]
are_above_upserted (name ∷ []) mode id null dirs above (first ∷ at) other es is =
    elim (same_name name first) as (λ b. cond b None (dirs (first ∷ (at ++ other ∷ []))) ≡ Some es → (e : EntryView) × HasAt (cond b None (dirs (first ∷ at))) e
    × (e.name ≡ other) × IsTrue (is_tree_mode e.mode)) [
      | true ↦ λ k. absurd (cc k)
      | false ↦ λ k. above (first ∷ at) other es k
    ] is
are_above_upserted (name ∷ next ∷ rest) mode id null dirs above [] other es is =
    elim (name_eq_or_ne name other) [
      | inl same ↦ let e = entry_of_has_tree name (with_directory name null (or_empty (dirs []))) (has_tree_with_directory name null (or_empty (dirs []))) in
          (e.0, e.1, e.2 ∙ same, e.3)
      | inr differ ↦ let e = above [] other es (sym (ap (λ (d : Dirs). d []) (upserted_dirs_in_other_dir name other next rest mode id null dirs differ))
          ∙ is) in
          (e.0, has_with_directory name null (or_empty (dirs [])) e.0 (λ q. differ (sym q ∙ e.2)) (has_or_empty_of_has_at (dirs []) e.0 e.1), e.2, e.3)
    ]
are_above_upserted (name ∷ next ∷ rest) mode id null dirs above (first ∷ at) other es is =
    elim (same_name name first) as (λ b. cond b (upserted_dirs (next ∷ rest) mode id null (in_dir name dirs) (at ++ other ∷ []))
    (dirs (first ∷ (at ++ other ∷ []))) ≡ Some es
    → (e : EntryView) × HasAt (cond b (upserted_dirs (next ∷ rest) mode id null (in_dir name dirs) at) (dirs (first ∷ at))) e × (e.name ≡ other)
    × IsTrue (is_tree_mode e.mode)) [
      | true ↦ λ k. are_above_upserted (next ∷ rest) mode id null (in_dir name dirs) (λ q. above (name ∷ q)) at other es k
      | false ↦ λ k. above (first ∷ at) other es k
    ] is

pub is_opened_upserted : (path : Path) (mode : ℕ) (id null : ObjectId) (dirs : Dirs) → AllByRecursion IsEntryName path → IsOpened dirs
    → IsOpened (upserted_dirs path mode id null dirs)
is_opened_upserted path mode id null dirs names opened = record {
  root = root_still path;
  well_formed = are_formed_upserted path mode id null dirs names opened.well_formed;
  above = are_above_upserted path mode id null dirs opened.above;
}
  where
    root_still : (p : Path) → upserted_dirs p mode id null dirs [] ≢ None
    root_still [] = opened.root
    root_still (name ∷ []) = λ e. cc e
    root_still (name ∷ next ∷ rest) = λ e. cc e

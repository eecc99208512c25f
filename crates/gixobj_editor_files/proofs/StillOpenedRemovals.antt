-- A removal keeps the invariant of open directories: for removals by the editor and `OpenPrefixes`.
use Rattle.std.proofs.Common.{◌≡◌, ◌≢◌, inl, inr, true, false, cond, List, [], ◌∷◌, ◌++◌, ℕ, refl, sym, ap, subst, ◌∙◌, Option, Some, None}
use Rattle.std.specs.Prelude.{IsTrue}
use Rattle.std.specs.Cmp.Lexicographic.{bytes_decides}
use Rattle.std.specs.Option.{option_map}
use Rattle.gixobj_tree_entries.specs.Entries.{EntryView}
use Rattle.gixobj_tree.specs.WellFormed.{IsWellFormed}
use Rattle.gixobj_tree_entries.specs.Mode.{is_tree_mode}
use Rattle.gixobj_editor_files.specs.Editing.{same_name, without}
use Rattle.gixobj_editor_files.specs.Edits.{removed_dirs}
use Rattle.gixobj_editor_files.specs.Files.{Path}
use Rattle.gixobj_editor_files.specs.Opening.{Dirs, HasAt, IsOpened, in_dir}
use Rattle.gixobj_editor_files.proofs.WellFormedEdits.{is_well_formed_without}
use Rattle.gixobj_editor_files.proofs.OpenedFiles.{same_name_refl, name_eq_or_ne}
use Rattle.gixobj_editor_files.proofs.RemovedFiles.{has_at_without_other, removed_name_in_other_dir}
use Rattle.gixobj_editor_files.proofs.StillOpened.{AreAbove, AreFormed}

is_well_formed_map_without : (name : List ℕ) (here : Option (List EntryView)) → ((es : List EntryView) → here ≡ Some es → IsWellFormed es)
    → (es : List EntryView)
    → option_map (without name) here ≡ Some es → IsWellFormed es
is_well_formed_map_without name None formed es is = absurd (cc is)
is_well_formed_map_without name (Some old) formed es is = subst IsWellFormed (some_is is) (is_well_formed_without name old (formed old refl))
  where
    some_is : Some (without name old) ≡ Some es → without name old ≡ es
    some_is e = cc e

are_formed_removed : (path : Path) (dirs : Dirs) → AreFormed dirs → AreFormed (removed_dirs path dirs)
are_formed_removed [] dirs formed at es is = formed at es is
are_formed_removed (name ∷ []) dirs formed [] es is = is_well_formed_map_without name (dirs []) (formed []) es is
are_formed_removed (name ∷ []) dirs formed (first ∷ at) es is =
    elim (same_name name first) as (λ b. cond b None (dirs (first ∷ at)) ≡ Some es → IsWellFormed es)
    [ true ↦ λ k. absurd (cc k) | false ↦ λ k. formed (first ∷ at) es k ] is
are_formed_removed (name ∷ next ∷ rest) dirs formed [] es is = formed [] es is
are_formed_removed (name ∷ next ∷ rest) dirs formed (first ∷ at) es is =
    elim (same_name name first) as (λ b. cond b (removed_dirs (next ∷ rest) (in_dir name dirs) at) (dirs (first ∷ at)) ≡ Some es → IsWellFormed es) [
      | true ↦ λ k. are_formed_removed (next ∷ rest) (in_dir name dirs) (λ q. formed (name ∷ q)) at es k
      | false ↦ λ k. formed (first ∷ at) es k
    ] is

-- a directory that is open after a removal was open before it
root_open_of_removed_dirs : (path : Path) (dirs : Dirs) (es : List EntryView) → removed_dirs path dirs [] ≡ Some es
    → (old : List EntryView) × (dirs [] ≡ Some old)
root_open_of_removed_dirs [] dirs es is = (es, is)
root_open_of_removed_dirs (name ∷ []) dirs es is = taken (dirs []) is
  where
    taken : (here : Option (List EntryView)) → option_map (without name) here ≡ Some es → (old : List EntryView) × (here ≡ Some old)
    taken None e = absurd (cc e)
    taken (Some old) e = (old, refl)
root_open_of_removed_dirs (name ∷ next ∷ rest) dirs es is = (es, is)

are_above_removed : (path : Path) (dirs : Dirs) → AreAbove dirs → AreAbove (removed_dirs path dirs)
are_above_removed [] dirs above at other es is = above at other es is
are_above_removed (name ∷ []) dirs above [] other es is =
    elim (name_eq_or_ne name other) [
      | inl same ↦ absurd (let gone : removed_dirs (name ∷ []) dirs (other ∷ []) ≡ None = subst (λ n. removed_dirs (name ∷ []) dirs (n ∷ []) ≡ None) same
          (ap (λ b. cond b None (dirs (name ∷ []))) (same_name_refl name)) in let bad : None ≡ Some es = sym gone ∙ is in cc bad)
      | inr differ ↦ let e = above [] other es (sym (ap (λ (d : Dirs). d []) (removed_name_in_other_dir name other dirs differ)) ∙ is) in
          (e.0, has_at_without_other name (dirs []) e.0 e.1 (λ q. differ (sym q ∙ e.2)), e.2, e.3)
    ]
are_above_removed (name ∷ []) dirs above (first ∷ at) other es is =
    elim (same_name name first) as (λ b. cond b None (dirs (first ∷ (at ++ other ∷ []))) ≡ Some es → (e : EntryView) × HasAt (cond b None (dirs (first ∷ at))) e
    × (e.name ≡ other) × IsTrue (is_tree_mode e.mode)) [
      | true ↦ λ k. absurd (cc k)
      | false ↦ λ k. above (first ∷ at) other es k
    ] is
are_above_removed (name ∷ next ∷ rest) dirs above [] other es is =
    elim (same_name name other) as (λ b. same_name name other ≡ b → cond b (removed_dirs (next ∷ rest) (in_dir name dirs) []) (dirs (other ∷ [])) ≡ Some es
    → (e : EntryView) × HasAt (dirs []) e × (e.name ≡ other) × IsTrue (is_tree_mode e.mode)) [
      | true ↦ λ called k. let old = root_open_of_removed_dirs (next ∷ rest) (in_dir name dirs) es k in let e =
          above [] name old.0 old.1 in (e.0, e.1, e.2 ∙ (bytes_decides name other).0 called, e.3)
      | false ↦ λ called k. above [] other es k
    ] refl is
are_above_removed (name ∷ next ∷ rest) dirs above (first ∷ at) other es is =
    elim (same_name name first) as (λ b. cond b (removed_dirs (next ∷ rest) (in_dir name dirs) (at ++ other ∷ [])) (dirs (first ∷ (at ++ other ∷ []))) ≡ Some es
    → (e : EntryView) × HasAt (cond b (removed_dirs (next ∷ rest) (in_dir name dirs) at) (dirs (first ∷ at))) e × (e.name ≡ other)
    × IsTrue (is_tree_mode e.mode)) [
      | true ↦ λ k. are_above_removed (next ∷ rest) (in_dir name dirs) (λ q. above (name ∷ q)) at other es k
      | false ↦ λ k. above (first ∷ at) other es k
    ] is

pub removed_dirs_keep_root : (path : Path) (dirs : Dirs) → dirs [] ≢ None → removed_dirs path dirs [] ≢ None
removed_dirs_keep_root [] dirs root = root
removed_dirs_keep_root (name ∷ []) dirs root = left (dirs []) root
  where
    left : (here : Option (List EntryView)) → here ≢ None → option_map (without name) here ≢ None
    left None some is = some refl
    left (Some old) some is = cc is
removed_dirs_keep_root (name ∷ next ∷ rest) dirs root = root

pub is_opened_removed : (path : Path) (dirs : Dirs) → IsOpened dirs → IsOpened (removed_dirs path dirs)
is_opened_removed path dirs opened = record {
  root = removed_dirs_keep_root path dirs opened.root;
  well_formed = are_formed_removed path dirs opened.well_formed;
  above = are_above_removed path dirs opened.above;
}

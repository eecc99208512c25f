-- The entries of tree mode in a list, before and after an edit: for all proofs of open directories.
use mathlib.Core.Bool.{true≢false}
use Rattle.std.proofs.Common.{◌≡◌, ◌≢◌, inl, inr, ℕ, Bool, true, false, cond, List, [], ◌∷◌, refl, sym, ap, ◌∙◌}
use Rattle.std.specs.Prelude.{◌&&◌, ◌||◌}
use Rattle.std.specs.Cmp.Lexicographic.{bytes_decides}
use Rattle.gixobj_tree_entries.specs.Entries.{EntryView}
use Rattle.gixobj_tree.specs.WellFormed.{IsEntryName, IsWellFormed}
use Rattle.gixobj_tree_entries.specs.Mode.{is_tree_mode, tree_type}
use Rattle.gixobj_hash.specs.declared.hash.object_id.ObjectId.{ObjectId}
use Rattle.gixobj_editor_files.specs.Editing.{has_tree, same_name, with_entry, without}
use Rattle.gixobj_editor_files.specs.Edits.{with_directory}
use Rattle.gixobj_editor_files.specs.Files.{ContainsEntry}
use Rattle.gixobj_editor_files.proofs.EditedFiles.{has_with_entry_new, has_without_other, has_with_entry_other}
use Rattle.gixobj_editor_files.proofs.WellFormedEdits.{is_well_formed_with_entry}

pub entry_of_has_tree : (name : List ℕ) (es : List EntryView) → has_tree name es ≡ true
    → (e : EntryView) × ContainsEntry es e × (e.name ≡ name) × (is_tree_mode e.mode ≡ true)
entry_of_has_tree name [] h = absurd (true≢false (sym h))
entry_of_has_tree name (e ∷ es) h =
    elim (same_name e.name name) as (λ b. same_name e.name name ≡ b → ((b && is_tree_mode e.mode) || has_tree name es) ≡ true
    → (x : EntryView) × ContainsEntry (e ∷ es) x
    × (x.name ≡ name) × (is_tree_mode x.mode ≡ true)) [
      | true ↦ λ is k. elim (is_tree_mode e.mode) as (λ b. is_tree_mode e.mode ≡ b → (b || has_tree name es) ≡ true → (x : EntryView) × ContainsEntry (e ∷ es) x
          × (x.name ≡ name) × (is_tree_mode x.mode ≡ true)) [
            | true ↦ λ tree l. (e, inl refl, (bytes_decides e.name name).0 is, tree)
            | false ↦ λ other l. let r = entry_of_has_tree name es l in (r.0, inr r.1, r.2, r.3)
          ] refl k
      | false ↦ λ is k. let r = entry_of_has_tree name es k in (r.0, inr r.1, r.2, r.3)
    ] refl h

pub has_tree_of_entry : (name : List ℕ) (es : List EntryView) (e : EntryView) → ContainsEntry es e → e.name ≡ name → is_tree_mode e.mode ≡ true
    → has_tree name es ≡ true
has_tree_of_entry name [] e h named tree = absurd h
has_tree_of_entry name (x ∷ es) e (inl same) named tree =
    let mode : is_tree_mode x.mode ≡ true = ap (λ (y : EntryView). is_tree_mode y.mode) same ∙ tree in
    let called : same_name x.name name ≡ true = (bytes_decides x.name name).1 (ap (λ (y : EntryView). y.name) same ∙ named) in
    rw (called, mode) refl
has_tree_of_entry name (x ∷ es) e (inr h) named tree = rw (has_tree_of_entry name es e h named tree) (either (same_name x.name name && is_tree_mode x.mode))
  where
    either : (b : Bool) → (b || true) ≡ true
    either true = refl
    either false = refl

pub has_tree_with_entry : (name : List ℕ) (x : EntryView) (es : List EntryView) → name ≢ x.name → has_tree name es ≡ true
    → has_tree name (with_entry x es) ≡ true
has_tree_with_entry name x es differ h =
    let e = entry_of_has_tree name es h in
    has_tree_of_entry name (with_entry x es) e.0 (has_with_entry_other x es e.0 e.1 (λ q. differ (sym e.2 ∙ q))) e.2 e.3

pub has_tree_without_other : (name gone : List ℕ) (es : List EntryView) → name ≢ gone → has_tree name es ≡ true → has_tree name (without gone es) ≡ true
has_tree_without_other name gone es differ h =
    let e = entry_of_has_tree name es h in
    has_tree_of_entry name (without gone es) e.0 (has_without_other gone es e.0 e.1 (λ q. differ (sym e.2 ∙ q))) e.2 e.3

-- a list with a directory of this name has an entry of tree mode for it
pub has_tree_with_directory : (name : List ℕ) (null : ObjectId) (es : List EntryView) → has_tree name (with_directory name null es) ≡ true
has_tree_with_directory name null es =
    let x : EntryView = record { mode = tree_type; name = name; id = null } in
    elim (has_tree name es) as (λ b. has_tree name es ≡ b → has_tree name (cond b es (with_entry x es)) ≡ true) [
      | true ↦ λ is. is
      | false ↦ λ is. has_tree_of_entry name (with_entry x es) x (has_with_entry_new x es) refl refl
    ] refl

pub has_tree_with_other_directory : (other name : List ℕ) (null : ObjectId) (es : List EntryView) → has_tree other es ≡ true
    → has_tree other (with_directory name null es) ≡ true
has_tree_with_other_directory other name null es h =
    let x : EntryView = record { mode = tree_type; name = name; id = null } in
    elim (has_tree name es) as (λ b. has_tree name es ≡ b → has_tree other (cond b es (with_entry x es)) ≡ true) [
      | true ↦ λ is. h
      | false ↦ λ is. has_tree_with_entry other x es (λ q. true≢false (sym h ∙ ap (λ n. has_tree n es) q ∙ is)) h
    ] refl

pub is_well_formed_with_directory : (name : List ℕ) (null : ObjectId) (es : List EntryView) → IsWellFormed es → IsEntryName name
    → IsWellFormed (with_directory name null es)
is_well_formed_with_directory name null es formed is_name =
    let x : EntryView = record { mode = tree_type; name = name; id = null } in
    elim (has_tree name es) as (λ b. IsWellFormed (cond b es (with_entry x es))) [ true ↦ formed | false ↦ is_well_formed_with_entry x es formed is_name ]

-- an entry of tree mode that is there is unchanged
pub with_directory_of_tree : (name : List ℕ) (null : ObjectId) (es : List EntryView) → has_tree name es ≡ true → with_directory name null es ≡ es
with_directory_of_tree name null es h = rw h refl

-- After each edit by a cursor the directory at its prefix is still open, and its names are valid; the proofs of the
-- cursor's `try_` edits use it.
use Rattle.std.proofs.Common.{◌≡◌, ◌≢◌, ◌∙◌, inl, inr, ℕ, List, [], ◌∷◌, ◌++◌, Some, None, Result, Ok, Err, ap, refl, subst, sym}
use Rattle.std.specs.Prelude.{IfErr, OnOk, reverse}
use Rattle.std.specs.List.{AllByRecursion}
use Rattle.std.proofs.lemmas.List.{reverse-reverse}
use Rattle.std.proofs.lemmas.List.Elements.{All-append, All-cons, All-nil}
use mathlib.Core.List.{reverse-cons}
use Rattle.gixobj_tree.specs.WellFormed.{IsEntryName}
use Rattle.gixobj_editor_open.specs.Paths.{AreNames}
use Rattle.gixobj_store.specs.Stores.{Objects, StoreModel}
use Rattle.gixobj_editor_lookups.specs.Openings.{AreTreesOf}
use Rattle.gixobj_editor_lookups.proofs.NamedTrees.{trees_of_objects_exist}
use Rattle.gixobj_editor_files.specs.Edits.{Opens}
use Rattle.gixobj_editor_files.specs.Files.{ContainsEntry, Path, Trees}
use Rattle.gixobj_editor_files.specs.Opening.{Dirs, HasAt, IsOpened}
use Rattle.gixobj_editor_files.specs.State.{State, open_dirs}
use Rattle.gixobj_editor_files.proofs.OpenPrefixes.{removed_dirs_keep_prefix, upserted_dirs_keep_prefix}
use Rattle.gixobj_editor_files.proofs.StillOpenedOpenings.{opens_keeps_open_lists}
use Rattle.gixobj_hash.specs.Hash.{null_id}
use Rattle.gixobj_hash.specs.declared.hash.object_id.ObjectId.{ObjectId}
use Rattle.gixobj_tree_entries.specs.Entries.{EntryView}
use Rattle.gixobj_editor_lookups.specs.EditNames.{from_root, directory_of}
use Rattle.gixobj_editor.specs.Removals.{IsRemovedUpTo}
use Rattle.gixobj_editor.specs.Upserts.{IsUpserted}
use Rattle.gixobj_editor.specs.FailedEdits.{IsAfterFailedEdit}
use Rattle.gixobj_editor_lookups.specs.declared.error.Error.{Error}

-- if each open directory is still open, this one is
open_of_unchanged_at : (old new : Dirs) (at : Path) → ((entries : List EntryView) → old at ≡ Some entries → new at ≡ Some entries) → old at ≢ None
    → new at ≢ None
open_of_unchanged_at old new at keeps there none =
    elim (old at) as (λ o. old at ≡ o → ⊥) [
      | None ↦ λ is. there is
      | Some entries ↦ λ is. let bad : Some entries ≡ None = sym (keeps entries is) ∙ none in cc bad
    ] refl

opens_keeps_open : {StopsBefore : EntryView → Type 0} (trees : Trees) (path : Path) (old new : Dirs) (queries : List ObjectId)
    → Opens StopsBefore trees path old new queries
    → (at : Path) → old at ≢ None → new at ≢ None
opens_keeps_open trees path old new queries opens at there = open_of_unchanged_at old new at (opens_keeps_open_lists trees path old new queries opens at) there

-- the directory at the prefix is open
abbrev pub IsAtPrefix : {S : Type 0} → State S → Type 0
IsAtPrefix state = open_dirs state state.prefix ≢ None

-- after an edit the prefix is unchanged, and the directory there is open
abbrev pub Stays : {S : Type 0} → State S → State S → Type 0
Stays old new = (new.prefix ≡ old.prefix) × (IsAtPrefix old → IsAtPrefix new)

stays_of_open_prefix : {S : Type 0} (old new : State S) → new.prefix ≡ old.prefix → (open_dirs old old.prefix ≢ None → open_dirs new old.prefix ≢ None)
    → Stays old new
stays_of_open_prefix old new same kept = (same, λ there. subst (λ (p : Path). open_dirs new p ≢ None) (sym same) (kept there))

upserted_keeps_prefix_open : {S : Type 0} (trees : Trees) (old new : State S) (prefix path : Path) (mode : ℕ) (id : ObjectId)
    → IsUpserted trees old (from_root prefix path) mode id new → open_dirs old prefix ≢ None → open_dirs new prefix ≢ None
upserted_keeps_prefix_open trees old new prefix [] mode id h there = λ none. opens_keeps_open trees [] (open_dirs old) h.opened h.looked_up h.opens prefix there
    (sym (h.dirs prefix) ∙ none)
upserted_keeps_prefix_open trees old new prefix (name ∷ path) mode id h there =
    λ none. upserted_dirs_keep_prefix prefix name path mode id (null_id old.object_hash) h.opened
    (sym (h.dirs prefix) ∙ none)

removed_keeps_prefix_open : {S : Type 0} {StopsBefore : EntryView → Type 0} (trees : Trees) (old new : State S) (prefix path : Path)
    → IsRemovedUpTo StopsBefore trees old (from_root prefix path) new → open_dirs old prefix ≢ None → open_dirs new prefix ≢ None
removed_keeps_prefix_open trees old new prefix [] h there = λ none. opens_keeps_open trees [] (open_dirs old) h.opened h.looked_up h.opens prefix there
    (sym (h.dirs prefix) ∙ none)
removed_keeps_prefix_open trees old new prefix (name ∷ path) h there =
    λ none. removed_dirs_keep_prefix prefix name path h.opened
    (opens_keeps_open trees (directory_of (prefix ++ name ∷ path)) (open_dirs old) h.opened h.looked_up h.opens prefix there) (sym (h.dirs prefix) ∙ none)

pub stays_upserted : {S : Type 0} (trees : Trees) (old new : State S) (path : Path) (mode : ℕ) (id : ObjectId)
    → IsUpserted trees old (from_root old.prefix path) mode id new → Stays old new
stays_upserted {S} trees old new path mode id h = stays_of_open_prefix old new (ap (λ (o : State S). o.prefix) h.rest)
    (upserted_keeps_prefix_open trees old new old.prefix path mode id h)

pub stays_removed : {S : Type 0} {StopsBefore : EntryView → Type 0} (trees : Trees) (old new : State S) (path : Path)
    → IsRemovedUpTo StopsBefore trees old (from_root old.prefix path) new → Stays old new
stays_removed {S} trees old new path h = stays_of_open_prefix old new (ap (λ (o : State S). o.prefix) h.rest)
    (removed_keeps_prefix_open trees old new old.prefix path h)

pub stays_failed : {S : Type 0} (model : StoreModel S) (trees : Trees) (old new : State S) (path : Path) (failure : Error)
    → IsAfterFailedEdit model trees old path failure new → Stays old new
stays_failed {S} model trees old new path failure h = stays_of_open_prefix old new (ap (λ (o : State S). o.prefix) h.rest)
    (open_of_unchanged_at (open_dirs old) (open_dirs new) old.prefix (h.stays old.prefix))

-- an edit of the editor, accepted or failed
pub known_of_either : {W X : Type 0} (result : Result W X) (objects : Objects) (Known : Type 0) (Accepted : Trees → Type 0) (Refused : X → Trees → Type 0)
    → OnOk result ((trees : Trees) → AreTreesOf objects trees → Accepted trees)
    → IfErr result (λ error. (trees : Trees) → AreTreesOf objects trees → Refused error trees) → ((trees : Trees) → Accepted trees → Known)
    → ((error : X) (trees : Trees) → Refused error trees → Known) → Known
known_of_either (Ok it) objects Known Accepted Refused ok err accepted rejected = let named = trees_of_objects_exist objects in
    accepted named.0 (ok named.0 named.1)
known_of_either (Err error) objects Known Accepted Refused ok err accepted rejected = let named = trees_of_objects_exist objects in
    rejected error named.0 (err named.0 named.1)

-- the names of the path of an open directory are valid
valid_of_entry : (es : List EntryView) (e : EntryView) → AllByRecursion (λ x. IsEntryName x.name) es → ContainsEntry es e → IsEntryName e.name
valid_of_entry [] e all has = absurd has
valid_of_entry (x ∷ es) e all (inl same) = subst (λ (y : EntryView). IsEntryName y.name) same all.0
valid_of_entry (x ∷ es) e all (inr has) = valid_of_entry es e all.1 has

module _ (dirs : Dirs) (all : IsOpened dirs) where
  valid_at : (path : Path) (e : EntryView) → HasAt (dirs path) e → IsEntryName e.name
  valid_at path e has =
      elim (dirs path) as (λ o. dirs path ≡ o → HasAt o e → IsEntryName e.name) [
        | None ↦ λ is none. absurd none
        | Some entries ↦ λ is some. valid_of_entry entries e (all.well_formed path entries is).names some
      ] refl has

  open_at : (path : Path) (e : EntryView) → HasAt (dirs path) e → dirs path ≢ None
  open_at path e has none = subst (λ o. HasAt o e) none has

  names_of_reversed : (back : Path) → dirs (reverse back) ≢ None → AreNames (reverse back)
  names_of_reversed [] there = All-nil IsEntryName
  names_of_reversed (name ∷ back) there =
      elim (dirs (reverse back ++ name ∷ [])) as (λ o. dirs (reverse back ++ name ∷ []) ≡ o → AreNames (reverse (name ∷ back))) [
        | None ↦ λ none. absurd (there (ap dirs (reverse-cons name back) ∙ none))
        | Some entries ↦ λ some.
            let above = all.above (reverse back) name entries some in
            subst AreNames (sym (reverse-cons name back)) (All-append IsEntryName (reverse back) (name ∷ [])
            (names_of_reversed back (open_at (reverse back) above.0 above.1))
            (All-cons IsEntryName name [] (subst IsEntryName above.2 (valid_at (reverse back) above.0 above.1)) (All-nil IsEntryName)))
      ] refl

  pub names_of_open : (path : Path) → dirs path ≢ None → AreNames path
  names_of_open path there = subst AreNames (reverse-reverse path)
      (names_of_reversed (reverse path) (subst (λ (p : Path). dirs p ≢ None) (sym (reverse-reverse path)) there))

-- A lookup of a path finds the entry of the first name, and continues with the others in the object that it names; used
-- for `next_entry`, `lookup_entry` and `lookup_entry_by_path`.
use Rattle.std.proofs.Common.{◌≡◌, ◌≢◌, ◌<◌, ◌∷◌, ℕ, List, [], ap, arith, drop, length, map, nat_eq, refl, subst, sym, ⊎_elim, ◌∙◌}
use Rattle.std.proofs.Math.Dec.{eqb-suc-zero}
use Rattle.std.proofs.lemmas.List.{drop-map}
use Rattle.std.specs.Option.{option_map}
use Rattle.std.specs.Prelude.{Bool, IsSome, MatchBool, None, Option, Some}
use Rattle.std.specs.declared.ops.ControlFlow.{ControlFlow}
use Rattle.std.specs.declared.ops.ControlFlow.TheVariants.{Break, Continue}
use Rattle.bstr.specs.Owned.{bstring_bytes}
use Rattle.bstr.specs.declared.bstring.BString.{BString}
use Rattle.gixobj_hash.specs.declared.hash.object_id.ObjectId.{ObjectId}
use Rattle.gixobj_hash.specs.declared.kind.Kind.TheVariants.{Tree}
use Rattle.gixobj_tree_entries.specs.EntryViews.{entry_view}
use Rattle.gixobj_tree_entries.specs.declared.entry_ref.EntryRef.{EntryRef}
use Rattle.gixobj_store.proofs.PathBytes.{are_names_of_path, path_names, path_names_unique}
use Rattle.gixobj_store.proofs.Paths.{Follows, is_at_path_broken, is_at_path_complete, not_leads_to_in_none, kind_tree_or_not}
use Rattle.gixobj_store.specs.EntrySteps.{IsAtEntry}
use Rattle.gixobj_store.specs.Lookups.{IsAtPath, IsStep, IsStepInBytes, LeadsTo, Name, IsPathError, remaining_tree}
use Rattle.gixobj_store.specs.Stores.{IsFound, Objects, StoredObject, named, stored}
use Rattle.gixobj_store.specs.declared.«data».Data.{Data}
use Rattle.gixobj_store.specs.declared.find.Error.TheVariants.{OutOfMemory}
use Rattle.gixobj_store.specs.declared.tree.TreeRefIter.{TreeRefIter}

-- the remaining tree of a new iterator is the stored tree
remaining_tree_at_entry : (it : Data) (reader : TreeRefIter) → it.kind ≡ Tree → IsAtEntry it.object_hash it.bytes.now reader → remaining_tree reader ≡ stored it
remaining_tree_at_entry it reader is_tree start i = record { kind = sym is_tree i; object_hash = (start i).kind; bytes = (start i).bytes }

-- a step of a new iterator is a step into the stored tree
pub is_step_into_stored : (it : Data) (reader : TreeRefIter) (said : Name) (names others : List Name) (result : ControlFlow (Option EntryRef) ObjectId)
    → it.kind ≡ Tree
    → IsAtEntry it.object_hash it.bytes.now reader → names ≡ said ∷ others
    → IsStep (remaining_tree reader) (said ∷ others) result → IsStep (stored it) names result
is_step_into_stored it reader said names others result is_tree start split step =
    subst (λ (x : StoredObject). IsStep x names result) (remaining_tree_at_entry it reader is_tree start)
    (subst (λ (x : List Name). IsStep (remaining_tree reader) x result) (sym split) step)

pub names_nil_iff : (more : List BString) → MatchBool (nat_eq (length more) 0) (map bstring_bytes more ≡ []) (map bstring_bytes more ≢ [])
names_nil_iff [] = refl
names_nil_iff (name ∷ more) = rw (eqb-suc-zero (length more)) (λ none. cc none)

-- ---- the first step, into the tree of an iterator

stored_eq_remaining_tree : (it : Data) (reader : TreeRefIter) → it.bytes ≡ reader.bytes → it.kind ≡ Tree → it.object_hash ≡ reader.hash_kind
    → stored it ≡ remaining_tree reader
stored_eq_remaining_tree it reader bytes kind hash i = record { kind = kind i; object_hash = hash i; bytes = (bytes i).now }

pub is_step_of_reader : (it : Data) (reader : TreeRefIter) (names : List Name) (result : ControlFlow (Option EntryRef) ObjectId) → it.bytes ≡ reader.bytes
    → it.kind ≡ Tree → it.object_hash ≡ reader.hash_kind → (it.kind ≡ Tree → IsStep (stored it) names result)
    → IsStep (remaining_tree reader) names result
is_step_of_reader it reader names result bytes kind hash step = subst (λ (x : StoredObject). IsStep x names result)
    (stored_eq_remaining_tree it reader bytes kind hash)
    (step kind)

pub names_drop_one : (before after : List BString) → after ≡ drop 1 before → map bstring_bytes after ≡ drop 1 (map bstring_bytes before)
names_drop_one before after remaining = ap (map bstring_bytes) remaining ∙ sym (drop-map bstring_bytes 1 before)

pub is_at_path_of_reader : (objects : Objects) (reader : TreeRefIter) (names : List Name) (found : Option EntryRef)
    → IsStep (remaining_tree reader) names (Break found)
    → IsAtPath objects (Some (remaining_tree reader)) names (option_map entry_view found)
is_at_path_of_reader objects reader names found step = is_at_path_broken objects (remaining_tree reader) names found (λ other. absurd (other refl)) (λ is. step)

pub path_error_of_copy : (objects : Objects) (may_fail : ObjectId → Bool) (reader : TreeRefIter) (names : List Name) (found : Option EntryRef)
    → IsStep (remaining_tree reader) names (Break found) → IsSome found → IsPathError objects may_fail (Some (remaining_tree reader)) names OutOfMemory
path_error_of_copy objects may_fail reader names (Some entry) (name, split, first) some = (name, [], entry_view entry, split, (refl, first))
path_error_of_copy objects may_fail reader names None step none = cc none

-- ---- a later step, into the object that an id names

pub named_stored : (objects : Objects) (at id : ObjectId) (found : Option Data) (it : Data) → IsFound objects at found → at ≡ id → found ≡ Some it
    → named objects id ≡ Some (stored it)
named_stored objects at id found it is same some = ap (named objects) (sym same) ∙ sym is ∙ ap (option_map stored) some

pub is_at_path_none : (objects : Objects) (first : Option StoredObject) (path names : List Name) (at id : ObjectId) (found : Option Data)
    → Follows objects first path id names → IsFound objects at found → at ≡ id → found ≡ None → IsAtPath objects first path None
is_at_path_none objects first path names at id found follows is same none =
    let nothing : named objects id ≡ None = ap (named objects) (sym same) ∙ sym is ∙ ap (option_map stored) none in
    is_at_path_complete objects first path names id None follows
    (λ e. subst (λ (x : Option StoredObject). ¬ LeadsTo objects x names e) (sym nothing) (not_leads_to_in_none objects names e))

continue_ne_break : (next : ObjectId) → ¬ (◌≡◌ {A = ControlFlow (Option EntryRef) ObjectId} (Continue next) (Break None))
continue_ne_break next same = cc same

-- a step that continues is a step into a tree
pub kind_is_tree_of_step : (it : Data) (next : ObjectId) → (it.kind ≢ Tree → ◌≡◌ {A = ControlFlow (Option EntryRef) ObjectId} (Continue next) (Break None))
    → it.kind ≡ Tree
kind_is_tree_of_step it next other = ⊎_elim (λ is_tree. is_tree) (λ is_not. absurd (continue_ne_break next (other is_not))) (kind_tree_or_not it.kind)

pub is_at_path_found : (objects : Objects) (first : Option StoredObject) (path names : List Name) (id : ObjectId) (it : Data) (found : Option EntryRef)
    → Follows objects first path id names → named objects id ≡ Some (stored it)
    → (it.kind ≢ Tree → ◌≡◌ {A = ControlFlow (Option EntryRef) ObjectId} (Break found) (Break None)) → (it.kind ≡ Tree → IsStep (stored it) names (Break found))
    → IsAtPath objects first path (option_map entry_view found)
is_at_path_found objects first path names id it found follows is other step =
    is_at_path_complete objects first path names id (option_map entry_view found) follows
    (subst (λ (x : Option StoredObject). IsAtPath objects x names (option_map entry_view found)) (sym is)
    (is_at_path_broken objects (stored it) names found other step))

-- ---- paths in bytes

-- a step by the names of a path in bytes is a step by the list of its names
pub is_step_of_path_names : (tree : StoredObject) (path rest : List ℕ) (result : ControlFlow (Option EntryRef) ObjectId) → IsStepInBytes tree path rest result
    → IsStep tree (path_names path) result × (path_names rest ≡ drop 1 (path_names path))
is_step_of_path_names tree path rest result (names, are, remaining, step) =
    let same = path_names_unique path names (path_names path) are (are_names_of_path path) in (
      subst (λ (it : List Name). IsStep tree it result) same step,
      path_names_unique rest (path_names rest) (drop 1 names) (are_names_of_path rest) remaining ∙ ap (drop 1) same,
    )

pub path_names_len_lt : (path rest : List ℕ) → path_names path ≢ [] → path_names rest ≡ drop 1 (path_names path)
    → length (path_names rest) < length (path_names path)
path_names_len_lt path rest some remaining = fewer (path_names path) (path_names rest) some remaining
  where
    fewer : (before after : List Name) → before ≢ [] → after ≡ drop 1 before → length after < length before
    fewer [] after some remaining = absurd (some refl)
    fewer (name ∷ before) after some remaining = rw remaining (omega arith)

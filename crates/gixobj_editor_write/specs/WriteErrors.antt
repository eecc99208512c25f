-- A write of open directories: which one is next, what one entry emits, and the errors of a write.
use Rattle.std.specs.Prelude.{◌≡◌, ◌+◌, ℕ, List, [], ◌∷◌, ◌++◌, Option, Some, None}
use Rattle.std.specs.List.{FoldsTo}
use Rattle.gixobj_tree_entries.specs.Entries.{EntryView, Pair}
use Rattle.gixobj_hash.specs.declared.hash.object_id.ObjectId.{ObjectId}
use Rattle.gixobj_editor_files.specs.Emission.{EmitsEntries, entry_unless_null}
use Rattle.gixobj_editor_files.specs.Opening.{Dirs, in_dir}
use Rattle.gixobj_editor_open.specs.declared.open.Child.{Child}
use Rattle.gixobj_editor_open.specs.Nested.{Level, at_side}
use Rattle.gixobj_editor_write.specs.declared.write.WriteError.{WriteError}
use Rattle.gixobj_editor_write.specs.declared.write.WriteError.TheVariants as write

-- the entry emits these pairs and leaves these entries, with `saved` unchanged directories at and below it, whatever
-- entries come after it; the directories and the bases are those in it
abbrev pub EmitsEntry : Dirs → Dirs → EntryView → List Pair → List EntryView → ℕ → Type 0
EmitsEntry inside based e inner kept saved =
    (dirs bases : Dirs) → in_dir e.name dirs ≡ inside → in_dir e.name bases ≡ based
    → (entries : List EntryView) (below : List Pair) (written_tree : List EntryView) (more : ℕ)
    → EmitsEntries dirs bases entries below written_tree more
    → EmitsEntries dirs bases (e ∷ entries) (inner ++ below) (kept ++ written_tree) (saved + more)

-- the entry with this id, or no entry if there is no id
abbrev pub entry_if_some : EntryView → Option ObjectId → List EntryView
entry_if_some e None = []
entry_if_some e (Some id) = entry_unless_null e id

-- `out` returned ids for a prefix of the emitted pairs, and then this error for the next tree
pub record IsOutError {F E : Type 0} (gave : F → Pair → F → Type 0) (denies : F → List EntryView → E → F → Type 0)
    (EmitsPairs : List Pair → Type 0) (old new : F) (error : E) : Type 0 where
  pub before : List Pair
  pub tree : List EntryView
  pub between : F
  pub called : FoldsTo gave old before between
  pub failed : denies between tree error new
  pub emitted : (id : ObjectId) → (rest : List Pair) × EmitsPairs (before ++ (id, tree) ∷ rest)

-- `out` returned ids for a prefix of the emitted pairs, and then an allocation failed
pub record IsMemoryError {F : Type 0} (gave : F → Pair → F → Type 0) (EmitsPairs : List Pair → Type 0)
    (old new : F) : Type 0 where
  pub before : List Pair
  pub rest : List Pair
  pub called : FoldsTo gave old before new
  pub emitted : EmitsPairs (before ++ rest)

-- the error of a write that would emit such pairs: one of `out`, or out of memory
abbrev pub IsWriteError : {F E : Type 0} → (F → Pair → F → Type 0) → (F → List EntryView → E → F → Type 0)
    → (List Pair → Type 0) → F → F → WriteError E → Type 0
IsWriteError gave denies EmitsPairs old new (write.Out error) = IsOutError gave denies EmitsPairs old new error
IsWriteError gave denies EmitsPairs old new write.OutOfMemory = IsMemoryError gave EmitsPairs old new

-- one list of each directory that is open in a child, if there is a child
abbrev pub child_side : (Level → List EntryView) → Option Child → Dirs
child_side side None path = None
child_side side (Some c) path = at_side side c.open path

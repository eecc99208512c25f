-- Lookup of tree entries by name, and along paths through the trees of a store (git-rev-parse, `<rev>:<path>`).
use Rattle.std.specs.Prelude.{◌≡◌, ◌≢◌, ◌++◌, ◌∷◌, ℕ, Bool, IsTrue, List, [], None, Option, Some, drop, map}
use Rattle.std.specs.List.{AllZip, zip}
use Rattle.std.specs.declared.ops.ControlFlow.{ControlFlow}
use Rattle.std.specs.declared.ops.ControlFlow.TheVariants.{Break, Continue}
use Rattle.gixobj_hash.specs.Runs as runs
use Rattle.gixobj_hash.specs.declared.hash.kind.Kind as hash
use Rattle.gixobj_hash.specs.declared.hash.object_id.ObjectId.{ObjectId}
use Rattle.gixobj_hash.specs.declared.kind.Kind.TheVariants.{Tree}
use Rattle.gixobj_hash.specs.Bytes.{slash}
use Rattle.gixobj_hash.specs.Splits.{IsSplitAtEach}
use Rattle.gixobj_tree_entries.specs.Entries.{EntryView}
use Rattle.gixobj_tree_entries.specs.TreeDecoding.{EntryStep}
use Rattle.gixobj_tree_entries.specs.EntryViews.{entry_view}
use Rattle.gixobj_tree_entries.specs.declared.entry_ref.EntryRef.{EntryRef}
use Rattle.gixobj_store.specs.EntrySteps.{remaining_tree_bytes}
use Rattle.gixobj_store.specs.Stores.{Objects, StoredObject, named}
use Rattle.gixobj_store.specs.declared.find.Error.{Error}
use Rattle.gixobj_store.specs.declared.find.Error.TheVariants.{OutOfMemory, Store}
use Rattle.gixobj_store.specs.declared.tree.TreeRefIter.{TreeRefIter}

-- a name of a path, as bytes
abbrev pub Name : Type 0
Name = List ℕ

-- the entry has this name
abbrev pub IsNamed : Name → EntryView → Type 0
IsNamed name e = e.name ≡ name

-- the first entry of this name that a tree's content yields, before any malformed entry
abbrev pub HasFirstNamed : hash.Kind → List ℕ → Name → EntryView → Type 0
HasFirstNamed hash content name e = runs.FindsFirst (EntryStep hash) (IsNamed name) tt content e × IsNamed name e

-- a tree's content yields no entry of this name
abbrev pub HasNoEntryNamed : hash.Kind → List ℕ → Name → Type 0
HasNoEntryNamed hash content name = (e : EntryView) → ¬ HasFirstNamed hash content name e

-- ---- one step

-- the result of a step into a tree. Break: the entry of the last name, or none if no entry has the first name; without
-- names, none. Continue: the id of the entry of the first name, after which more names follow
abbrev pub IsStep : StoredObject → List Name → ControlFlow (Option EntryRef) ObjectId → Type 0
IsStep tree names (Break (Some entry)) = (name : Name) × (names ≡ name ∷ [])
    × HasFirstNamed tree.object_hash tree.bytes name (entry_view entry)
IsStep tree names (Break None) = (name : Name) (more : List Name) → names ≡ name ∷ more
    → HasNoEntryNamed tree.object_hash tree.bytes name
IsStep tree names (Continue id) = (name : Name) × (more : List Name) × (e : EntryView) × (names ≡ name ∷ more)
    × (more ≢ []) × HasFirstNamed tree.object_hash tree.bytes name e × (e.id ≡ id)

-- ---- paths

-- the object exists, it is a tree, and this is its first entry of the name
abbrev pub FoundIn : Option StoredObject → Name → EntryView → Type 0
FoundIn (Some it) name e = (it.kind ≡ Tree) × HasFirstNamed it.object_hash it.bytes name e
FoundIn None name e = ⊥

-- the objects in which the names of a path are looked up: the first object, and then those that the entries' ids name
abbrev pub searched_in : Objects → Option StoredObject → List EntryView → List (Option StoredObject)
searched_in objects first entries = first ∷ map (λ e. named objects e.id) entries

-- the entries of a path: for each name the first entry of this name in its object
abbrev pub IsPath : Objects → Option StoredObject → List Name → List EntryView → Type 0
IsPath objects first names entries = AllZip (λ lookup e. FoundIn lookup.0 lookup.1 e)
    (zip (searched_in objects first entries) names) entries

-- the names lead to this entry
abbrev pub LeadsTo : Objects → Option StoredObject → List Name → EntryView → Type 0
LeadsTo objects first names e = (before : List EntryView) × IsPath objects first names (before ++ e ∷ [])

-- the result of a lookup by the names: the entry to which they lead, or none
abbrev pub IsAtPath : Objects → Option StoredObject → List Name → Option EntryView → Type 0
IsAtPath objects first names (Some e) = LeadsTo objects first names e
IsAtPath objects first names None = (e : EntryView) → ¬ LeadsTo objects first names e

-- a proper prefix of the names leads to this entry
abbrev pub ProperPrefixLeadsTo : Objects → Option StoredObject → List Name → EntryView → Type 0
ProperPrefixLeadsTo objects first names e = (begun more : List Name) × (names ≡ begun ++ more) × (more ≢ [])
    × LeadsTo objects first begun e

-- Store: a proper prefix of the names leads to an entry with an id whose lookup may fail; OutOfMemory: the first name
-- was found
abbrev pub IsPathError : Objects → (ObjectId → Bool) → Option StoredObject → List Name → Error → Type 0
IsPathError objects may_fail first names (Store message) = (e : EntryView) × ProperPrefixLeadsTo objects first names e
    × IsTrue (may_fail e.id)
IsPathError objects may_fail first names OutOfMemory = (name : Name) × (more : List Name) × (e : EntryView)
    × (names ≡ name ∷ more) × FoundIn first name e

-- the remaining entries of an iterator, as a stored tree
abbrev pub remaining_tree : TreeRefIter → StoredObject
remaining_tree reader = record { kind = Tree; object_hash = reader.hash_kind; bytes = remaining_tree_bytes reader }

-- ---- paths as bytes

-- the parts that are not empty
abbrev pub named_parts : List (List ℕ) → List Name
named_parts [] = []
named_parts ([] ∷ parts) = named_parts parts
named_parts ((byte ∷ bytes) ∷ parts) = (byte ∷ bytes) ∷ named_parts parts

-- the names of a path: its parts between slashes that are not empty
abbrev pub AreNamesOf : List ℕ → List Name → Type 0
AreNamesOf path names = (parts : List (List ℕ)) × IsSplitAtEach slash path parts × (names ≡ named_parts parts)

-- the first name of the path; the rest holds the other names, and is empty if there are none
abbrev pub SplitsName : List ℕ → Name → List ℕ → Type 0
SplitsName path name rest = (others : List Name) × AreNamesOf path (name ∷ others) × AreNamesOf rest others
    × (rest ≢ [] → others ≢ [])

-- a step by the first name of a path, and the rest of the path after it
abbrev pub IsStepInBytes : StoredObject → List ℕ → List ℕ → ControlFlow (Option EntryRef) ObjectId → Type 0
IsStepInBytes tree path rest result = (names : List Name) × AreNamesOf path names × AreNamesOf rest (drop 1 names)
    × IsStep tree names result

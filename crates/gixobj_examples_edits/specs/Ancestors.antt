-- Commits of a store, their first parents and their trees, and the errors of a walk.
use Rattle.std.specs.Prelude.{◌≡◌, ◌∷◌, ◌<◌, ℕ, Bool, List, Some, [], suc, zero}
use Rattle.gix_object.specs.Commit.{CommitLines, DecodesToCommit}
use Rattle.gix_object.specs.Existing.{IsFindObjectError, IsReaderError}
use Rattle.gix_object.specs.Hash.{DecodesToId}
use Rattle.gix_object.specs.Lookups.{Name, IsPathError}
use Rattle.gix_object.specs.Stores.{Names, Objects, StoredObject}
use Rattle.gix_object.specs.hash.hash.object_id.ObjectId.{ObjectId}
use Rattle.gix_object.specs.hash.kind.Kind.TheVariants.{Commit, Tree}
use Rattle.gixobj_examples_edits.specs.declared.history.Error.{Error}
use Rattle.gixobj_examples_edits.specs.declared.history.Error.TheVariants as history

-- the id names an object that decodes to this commit
abbrev pub NamesEncodedCommit : Objects → ObjectId → CommitLines → Type 0
NamesEncodedCommit objects id commit = (it : StoredObject) × Names objects id it × (it.kind ≡ Commit)
    × DecodesToCommit it.object_hash it.bytes commit

-- the first parent of the commit
abbrev pub IsFirstParent : Objects → ObjectId → ObjectId → Type 0
IsFirstParent objects child parent = (commit : CommitLines) × NamesEncodedCommit objects child commit
    × ((hex : List ℕ) × (more : List (List ℕ)) × (commit.parents ≡ hex ∷ more) × DecodesToId hex parent)

-- n steps, each from a commit to its first parent, lead from the start to this commit
abbrev pub IsAncestor : Objects → ℕ → ObjectId → ObjectId → Type 0
IsAncestor objects zero start id = start ≡ id
IsAncestor objects (suc n) start id = (child : ObjectId) × IsAncestor objects n start child
    × IsFirstParent objects child id

-- the tree of the commit is this object
abbrev pub HasTree : Objects → ObjectId → StoredObject → Type 0
HasTree objects id tree = (commit : CommitLines) × NamesEncodedCommit objects id commit
    × ((named : ObjectId) × DecodesToId commit.tree named × Names objects named tree × (tree.kind ≡ Tree))

-- ---- errors of a walk

-- the errors of a first parent: the commit isn't found, or it has no parent
abbrev pub IsParentError : Objects → (ObjectId → Bool) → ObjectId → Error → Type 0
IsParentError objects may_fail child (history.Commit cause) = IsFindObjectError objects may_fail Commit child cause
IsParentError objects may_fail child (history.NoParent said) = (said ≡ child)
    × ((commit : CommitLines) × NamesEncodedCommit objects child commit × (commit.parents ≡ []))
IsParentError objects may_fail child error = ⊥

-- the errors of a walk: fewer steps lead to a commit without a first parent
abbrev pub IsWalkError : Objects → (ObjectId → Bool) → ℕ → ObjectId → Error → Type 0
IsWalkError objects may_fail generations start error = (n : ℕ) × (child : ObjectId) × (n < generations)
    × IsAncestor objects n start child × IsParentError objects may_fail child error

-- the commit has this id as its tree's
abbrev pub NamesTreeId : Objects → ObjectId → ObjectId → Type 0
NamesTreeId objects id named = (commit : CommitLines) × NamesEncodedCommit objects id commit
    × DecodesToId commit.tree named

-- the errors of a lookup in the tree of a commit: the commit isn't found, or its tree isn't, or the path isn't followed
abbrev pub IsEntryOfCommitError : Objects → (ObjectId → Bool) → ObjectId → List Name → Error → Type 0
IsEntryOfCommitError objects may_fail id names (history.Commit cause) =
    IsFindObjectError objects may_fail Commit id cause
IsEntryOfCommitError objects may_fail id names (history.Tree cause) = (named : ObjectId) × NamesTreeId objects id named
    × IsReaderError objects may_fail Tree named cause
IsEntryOfCommitError objects may_fail id names (history.Path cause) = (tree : StoredObject) × HasTree objects id tree
    × IsPathError objects may_fail (Some tree) names cause
IsEntryOfCommitError objects may_fail id names (history.NoParent said) = ⊥

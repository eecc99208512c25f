-- The tree of a commit or a tree.
use Rattle.std.specs.Prelude.{◌≡◌, ◌⊎◌}
use Rattle.gix_object.specs.Commit.{CommitLines}
use Rattle.gix_object.specs.Hash.{DecodesToId}
use Rattle.gix_object.specs.Stores.{Names, Objects, StoredObject}
use Rattle.gix_object.specs.hash.hash.object_id.ObjectId.{ObjectId}
use Rattle.gix_object.specs.hash.kind.Kind.TheVariants.{Commit}
use Rattle.gixobj_listings.specs.Histories.{NamesCommit}

-- the id names an object that is a commit
abbrev pub NamesCommitObject : Objects → ObjectId → Type 0
NamesCommitObject objects id = (it : StoredObject) × Names objects id it × (it.kind ≡ Commit)

-- the id names no object that is a commit
abbrev pub NamesNoCommitObject : Objects → ObjectId → Type 0
NamesNoCommitObject objects id = (it : StoredObject) → Names objects id it → ¬ (it.kind ≡ Commit)

-- the id of the tree of the commit that the id names; or the id itself, if it names no commit
abbrev pub IsTreeOf : Objects → ObjectId → ObjectId → Type 0
IsTreeOf objects id tree = ((commit : CommitLines) × NamesCommit objects id commit × DecodesToId commit.tree tree)
    ⊎ (NamesNoCommitObject objects id × (tree ≡ id))

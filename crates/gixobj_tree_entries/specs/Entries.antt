-- The entries of trees, and a tree with its id (gitdatamodel, "trees").
use Rattle.std.specs.Prelude.{ℕ, List}
use Rattle.gixobj_hash.specs.declared.hash.object_id.ObjectId.{ObjectId}

-- an entry as contracts see it
pub record EntryView : Type 0 where
  pub mode : ℕ
  pub name : List ℕ
  pub id : ObjectId

-- the entry of this mode, name and id
abbrev pub entry_of : ℕ → List ℕ → ObjectId → EntryView
entry_of mode name id = record { mode = mode; name = name; id = id }

-- a tree and an id given to it, which nothing here says to be its digest
abbrev pub Pair : Type 0
Pair = ObjectId × List EntryView

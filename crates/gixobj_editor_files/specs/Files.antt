-- The files of a tree to a depth, and what an edit makes of a set of files (gitglossary, "tree object"; gitrevisions,
-- "<rev>:<path>").
use Rattle.std.specs.Prelude.{◌≡◌, ◌⊎◌, ◌↔◌, ◌≤◌, ◌-◌, ℕ, zero, suc, Bool, List, [], ◌∷◌, ◌++◌, ◌==◌, true, IsFalse}
use Rattle.std.specs.Prelude.{MatchOption, Option, Some, None, if◌then◌else◌, length}
use Rattle.std.specs.List.{list_all}
use Rattle.gixobj_tree_entries.specs.Entries.{EntryView}
use Rattle.gixobj_hash.specs.Hash.{id_bytes, id_of}
use Rattle.gixobj_tree_entries.specs.Mode.{is_tree_mode}
use Rattle.gixobj_hash.specs.declared.hash.kind.Kind.{Kind}
use Rattle.gixobj_hash.specs.declared.hash.object_id.ObjectId.{ObjectId}
use Rattle.gixobj_hash.specs.declared.kind.Kind.TheVariants.{Tree}

-- the tree that an id names, if it names one
abbrev pub Trees : Type 0
Trees = ObjectId → Option (List EntryView)

-- a path is a list of names
abbrev pub Path : Type 0
Path = List (List ℕ)

-- every byte of the null id is zero; it names nothing
abbrev pub is_null : ObjectId → Bool
is_null id = list_all (λ byte. byte == 0) (id_bytes id)

-- the entry is in the list
abbrev pub ContainsEntry : List EntryView → EntryView → Type 0
ContainsEntry [] x = ⊥
ContainsEntry (e ∷ es) x = (e ≡ x) ⊎ ContainsEntry es x

-- a table from ids to trees; a null id has no tree, and the id of the empty tree, of either digest, has the tree
-- without entries
pub record Table : Type 0 where
  pub tree_at : Trees
  pub nothing_by_null : (id : ObjectId) → is_null id ≡ true → tree_at id ≡ None
  pub none_in_empty : (hash : Kind) → tree_at (id_of hash Tree []) ≡ Some []

-- a set of files, each of which is a path, a mode and an id
abbrev pub FileSet : Type 1
FileSet = Path → ℕ → ObjectId → Type 0

-- two sets have the same files
abbrev pub SameFiles : FileSet → FileSet → Type 0
SameFiles A B = (path : Path) (mode : ℕ) (id : ObjectId) → A path mode id ↔ B path mode id

-- the tree that an entry of this mode and id names, if the mode is a tree's and the table has the id
abbrev pub resolves_to : Table → ℕ → ObjectId → Option (List EntryView)
resolves_to T mode id = if is_tree_mode mode then T.tree_at id else None

-- the files at and below an entry, with their paths from there; a null id has none; if the table has the entry's tree,
-- they are the files of that tree; otherwise the entry itself is the one file
abbrev pub Below : Table → (List EntryView → FileSet) → ℕ → ObjectId → FileSet
Below T files_of mode id = λ path mode' id'.
    IsFalse (is_null id) × MatchOption (resolves_to T mode id) ((path ≡ []) × (mode' ≡ mode) × (id' ≡ id))
    (λ entries. files_of entries path mode' id')

-- the files of a tree whose paths have at most `n` names
abbrev pub Files : Table → ℕ → List EntryView → FileSet
Files T zero entries path mode id = ⊥
Files T (suc n) entries [] mode id = ⊥
Files T (suc n) entries (name ∷ path) mode id = (e : EntryView) × ContainsEntry entries e × (e.name ≡ name)
    × Below T (Files T n) e.mode e.id path mode id

-- the files of the tree that an id names, and none if it names none
abbrev pub NamedFiles : Table → ℕ → ObjectId → FileSet
NamedFiles T n named = λ path mode id. MatchOption (T.tree_at named) ⊥ (λ entries. Files T n entries path mode id)

-- the path `q` begins with `p`
abbrev pub Begins : Path → Path → Type 0
Begins p q = (rest : Path) × (q ≡ p ++ rest)

-- the files of an entry that is inserted at `p`, with paths of at most `n` names
abbrev pub PlacedFile : Table → ℕ → Path → ℕ → ObjectId → FileSet
PlacedFile T n p mode id = λ path mode' id'. (length p ≤ n) × (rest : Path) × (path ≡ p ++ rest)
    × Below T (Files T (n - length p)) mode id rest mode' id'

-- an upsert at `p` drops the files at and below `p`, and those at the path of a parent directory of `p`; it adds the
-- files of the entry; a path without names changes nothing
abbrev pub Upserted : Table → ℕ → Path → ℕ → ObjectId → FileSet → FileSet
Upserted T n [] mode id files = files
Upserted T n (name ∷ p) mode id files = λ path mode' id'.
    (files path mode' id' × (¬ Begins (name ∷ p) path) × (¬ Begins path (name ∷ p)))
    ⊎ PlacedFile T n (name ∷ p) mode id path mode' id'

-- a removal at `p` drops the files at and below `p`; a path without names changes nothing
abbrev pub Removed : Path → FileSet → FileSet
Removed [] files = files
Removed (name ∷ p) files = λ path mode id. files path mode id × (¬ Begins (name ∷ p) path)

-- a directory ensured at `p` drops the files at `p`, and those at the path of a parent directory of `p`; a path without
-- names changes nothing
abbrev pub Ensured : Path → FileSet → FileSet
Ensured [] files = files
Ensured (name ∷ p) files = λ path mode id. files path mode id × (¬ Begins path (name ∷ p))

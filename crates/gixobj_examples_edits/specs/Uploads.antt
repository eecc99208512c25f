-- Uploads, by the open directories of an editor that a write emits, and those that the store has already.
use Rattle.std.specs.Prelude.{◌≡◌, ◌≢◌, ◌⊎◌, ◌++◌, ◌∷◌, ℕ, All, Contains, IsFalse, List, [], Some, length, map}
use Rattle.gix_object.specs.Entries.{Pair, EntryView}
use Rattle.gix_object.specs.WellFormed.{EachLater}
use Rattle.gix_object.specs.Bases.{HasBases}
use Rattle.gix_object.specs.Edits.{raised}
use Rattle.gix_object.specs.Files.{FileSet, NamedFiles, Path, SameFiles, Table}
use Rattle.gix_object.specs.Emission.{EmitsBelow}
use Rattle.gix_object.specs.Mode.{is_tree_mode}
use Rattle.gix_object.specs.Opening.{Dirs, IsOpened, in_path}
use Rattle.gix_object.specs.State.{EditorFiles, State, open_bases, open_dirs}
use Rattle.gix_object.specs.Tables.{AgreesWithPairs}
use Rattle.gix_object.specs.hash.hash.object_id.ObjectId.{ObjectId}
use Rattle.gixobj_examples_edits.specs.declared.upload.Upload.{Upload}

-- no tree is missing: a directory whose tree a table lacks counts as a file of a tree's mode
abbrev pub HasEveryTree : FileSet → Type 0
HasEveryTree files = (path : Path) (mode : ℕ) (id : ObjectId) → files path mode id → IsFalse (is_tree_mode mode)

-- an open directory that is emitted: its path from the root, and its id and tree
pub record Sent : Type 0 where
  pub path : Path
  pub pair : Pair

-- the path of an emitted directory
abbrev pub path_of : Sent → Path
path_of it = it.path

-- the id and the tree of an emitted directory
abbrev pub loose_pair_of : Sent → Pair
loose_pair_of it = it.pair

-- no path occurs twice
abbrev pub AreDistinctPaths : List Path → Type 0
AreDistinctPaths paths = EachLater (λ (one : Path) (other : Path). one ≢ other) paths

-- a write of these directories, opened with these bases, that emits these pairs
module _ (dirs bases : Dirs) (pairs : List Pair) where
  -- the written tree of the directory at the path: the pairs of the directories in it are consecutive
  pub record IsWrittenTree (path : Path) (written_tree : List EntryView) : Type 0 where
    pub prefix : List Pair
    pub below : List Pair
    pub back : List Pair
    pub count : ℕ
    pub split : pairs ≡ prefix ++ (below ++ back)
    pub emits : EmitsBelow (in_path path dirs) (in_path path bases) below written_tree count

  -- a changed directory: its written tree isn't its base
  pub record IsChanged (it : Sent) : Type 0 where
    pub written_tree : IsWrittenTree it.path it.pair.1
    pub filled : it.pair.1 ≢ []
    pub other : bases it.path ≢ Some it.pair.1

  -- an unchanged directory: its written tree is its base
  pub record IsUnchanged (path : Path) : Type 0 where
    pub tree : List EntryView
    pub written_tree : IsWrittenTree path tree
    pub filled : tree ≢ []
    pub same : bases path ≡ Some tree

  -- the directory is emitted, or unchanged, or its written tree is empty
  abbrev pub IsSorted : List Sent → List Path → Path → Type 0
  IsSorted sent spared path = ((pair : Pair) × Contains sent (record { path = path; pair = pair }))
      ⊎ (Contains spared path ⊎ IsWrittenTree path [])

  -- the emitted trees are those of the changed directories, each once, and then the root's; the number is that of the
  -- unchanged directories; and each open directory is one of these, or its written tree is empty
  pub record IsDivided (id : ObjectId) (unchanged : ℕ) : Type 0 where
    pub sent : List Sent
    pub spared : List Path
    pub written_tree : List EntryView
    pub entire : pairs ≡ map loose_pair_of sent ++ (id, written_tree) ∷ []
    pub changed : All IsChanged sent
    pub same : All IsUnchanged spared
    pub count : unchanged ≡ raised 0 (length spared)
    pub once : IsOpened dirs → AreDistinctPaths (map path_of sent) × AreDistinctPaths spared
    pub each : IsOpened dirs → (name : List ℕ) (path : Path) (entries : List EntryView)
        → dirs (name ∷ path) ≡ Some entries → IsSorted sent spared (name ∷ path)

module _ {S : Type 0} (editor : State S) (upload : Upload) where
  -- of the editor's open directories, the changed ones and the root are to be uploaded; the others are unchanged, or
  -- empty
  abbrev pub Divides : Type 0
  Divides = IsDivided (open_dirs editor) (open_bases editor) upload.trees.items upload.id upload.unchanged

  -- the table has the trees to upload, and the bases of the open directories
  pub record HasUploaded (T : Table) : Type 0 where
    pub pairs : AgreesWithPairs T upload.trees.items
    pub bases : HasBases T (open_dirs editor) (open_bases editor)

  -- if the table has what is uploaded, the named tree has the editor's files
  abbrev pub NamesItsFiles : Type 0
  NamesItsFiles = (T : Table) (n : ℕ) → HasUploaded T → SameFiles (NamedFiles T n upload.id) (EditorFiles T n editor)

  -- nothing more is to be uploaded: if no tree of the editor's files is missing, no tree of the named tree's files is
  abbrev pub IsEnough : Type 0
  IsEnough = (T : Table) (n : ℕ) → HasUploaded T → HasEveryTree (EditorFiles T n editor)
      → HasEveryTree (NamedFiles T n upload.id)

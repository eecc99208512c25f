-- Lists of files, read as sets, and the order of paths in a listing (git-ls-tree, `-r`).
use Rattle.std.specs.Prelude.{◌≡◌, ◌≢◌, ◌⊎◌, ◌≤◌, ℕ, Bool, true, false, List, [], ◌∷◌, length, ⊤}
use Rattle.std.specs.Cmp.Lexicographic.{slice_cmp}
use Rattle.std.specs.Ordering.{nat_cmp}
use Rattle.std.specs.declared.cmp.Ordering.TheVariants.{Less}
use Rattle.gix_object.specs.Files.{FileSet, Path}
use Rattle.gix_object.specs.KeyOrder.{key_of}
use Rattle.gix_object.specs.WellFormed.{EachLater}
use Rattle.gix_object.specs.hash.hash.object_id.ObjectId.{ObjectId}

-- a file as contracts see it: its path, the bits of its mode, and its id
pub record FileView : Type 0 where
  pub path : Path
  pub mode : ℕ
  pub id : ObjectId

-- the list has a file of this path, mode and id
abbrev pub Lists : List FileView → FileSet
Lists [] path mode id = ⊥
Lists (file ∷ files) path mode id = ((path ≡ file.path) × (mode ≡ file.mode) × (id ≡ file.id))
    ⊎ Lists files path mode id

-- the file with a name before its path
abbrev pub with_first_name : List ℕ → FileView → FileView
with_first_name name file = record { path = name ∷ file.path; mode = file.mode; id = file.id }

-- ---- order

-- the path has names
abbrev pub has_names : Path → Bool
has_names [] = false
has_names (name ∷ path) = true

-- the first path comes before the second: at the first name in which they differ, by the order of a tree's entries,
-- where a name that others follow is a directory's
abbrev pub ListedBefore : Path → Path → Type 0
ListedBefore [] path = ⊥
ListedBefore (x ∷ p) [] = ⊥
ListedBefore (x ∷ p) (y ∷ q) = (slice_cmp nat_cmp (key_of x (has_names p)) (key_of y (has_names q)) ≡ Less)
    ⊎ ((x ≡ y) × ListedBefore p q)

-- the files are in the order of their paths
abbrev pub AreInOrder : List FileView → Type 0
AreInOrder files = EachLater (λ x y. ListedBefore x.path y.path) files

-- the directory at the first path is opened before that at the second: it is a parent directory, or it comes before
abbrev pub OpenedBefore : Path → Path → Type 0
OpenedBefore [] [] = ⊥
OpenedBefore [] (y ∷ q) = ⊤
OpenedBefore (x ∷ p) [] = ⊥
OpenedBefore (x ∷ p) (y ∷ q) = (slice_cmp nat_cmp (key_of x true) (key_of y true) ≡ Less)
    ⊎ ((x ≡ y) × OpenedBefore p q)

-- the path has names, and at most this many
pub record IsBounded (depth : ℕ) (file : FileView) : Type 0 where
  pub filled : file.path ≢ []
  pub max_len : length file.path ≤ depth

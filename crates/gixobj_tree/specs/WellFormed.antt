-- Well-formed trees, and the parts of the check for them. git-fsck reports other trees as `emptyName`, `fullPathname`,
-- `duplicateEntries` and `treeNotSorted`; what it reports as `hasDot`, `hasDotdot`, `hasDotgit` or `nullSha1` is
-- well-formed here.
use Rattle.std.specs.Prelude.{◌≡◌, ◌≢◌, ℕ, List, [], All, Contains, IsTrue}
use Rattle.std.specs.List.{AllByRecursion}
use Rattle.gixobj_tree_entries.specs.Entries.{EntryView}
use Rattle.gixobj_tree_entries.specs.KeyOrder.{ComesBefore, entry_key}
pub use Rattle.gixobj_tree_entries.specs.KeyOrder.{EachLater}
use Rattle.gixobj_tree_entries.specs.Mode.{is_tree_mode}
use Rattle.gixobj_hash.specs.ByteStrings.{IsByteFree}
use Rattle.gixobj_hash.specs.Bytes.{slash}

-- a valid name of an entry in a well-formed tree: not empty, and without a slash
pub record IsEntryName (name : List ℕ) : Type 0 where
  pub filled : name ≢ []
  pub one_name : IsByteFree slash name

-- a well-formed tree: each name is valid, no two names are equal, and the keys ascend
pub record IsWellFormed (entries : List EntryView) : Type 0 where
  pub names : AllByRecursion (λ e. IsEntryName e.name) entries
  pub apart : EachLater (λ x y. x.name ≢ y.name) entries
  pub ascending : EachLater ComesBefore entries

-- each name is not empty and has no slash
abbrev pub HaveEntryNames : List EntryView → Type 0
HaveEntryNames entries = All (λ e. IsEntryName e.name) entries

-- no two entries have the same name
abbrev pub AreApart : List EntryView → Type 0
AreApart entries = EachLater (λ x y. x.name ≢ y.name) entries

-- an entry has this key
abbrev pub HasKey : List EntryView → List ℕ → Type 0
HasKey entries key = (e : EntryView) × Contains entries e × (entry_key e ≡ key)

-- the entry is a tree, and its bare name is the key of an entry; if names have no slash, that is a file's
abbrev pub HasNamesake : List EntryView → EntryView → Type 0
HasNamesake entries e = IsTrue (is_tree_mode e.mode) × HasKey entries e.name

-- Descents along open directories: each directory above is exchanged for the one in it, and restored on the way back.
use Rattle.std.specs.Prelude.{◌≡◌, ◌||◌, Bool, true, false, not, List, [], ◌∷◌, ◌++◌, ℕ, Some, reverse, take}
use Rattle.std.specs.Prelude.{if◌then◌else◌}
use Rattle.std.specs.List.{filter}
use Rattle.bstr.specs.declared.bstring.BString.{BString}
use Rattle.gixobj_editor_open.specs.Paths.{names_of}
use Rattle.gixobj_tree_entries.specs.Entries.{EntryView}
use Rattle.gixobj_editor_files.specs.Editing.{has_tree, same_name}
use Rattle.gixobj_editor_files.specs.Files.{Path}
use Rattle.gixobj_editor_files.specs.Opening.{Dirs, in_dir}
use Rattle.gixobj_editor_open.specs.Nested.{Opened, dirs_of, under}

-- the path leads to the directory of the name, or below it
abbrev pub is_in : List ℕ → Path → Bool
is_in name [] = false
is_in name (first ∷ rest) = same_name name first

-- the path without its first name
abbrev pub after_first : Path → Path
after_first [] = []
after_first (first ∷ rest) = rest

-- the directory of the name is open
abbrev pub has_inner : List ℕ → Opened → Bool
has_inner name [] = false
has_inner name (d ∷ ds) = is_in name d.0 || has_inner name ds

-- what is open at and below the directory of the name
abbrev pub inner : List ℕ → Opened → Opened
inner name [] = []
inner name (d ∷ ds) = if is_in name d.0 then (after_first d.0, d.1) ∷ inner name ds else inner name ds

-- what is open elsewhere
abbrev pub outside : List ℕ → Opened → Opened
outside name ds = filter (λ d. not (is_in name d.0)) ds

-- the open directories with what is open at and below the directory of the name replaced
abbrev pub with_inner : List ℕ → Opened → Opened → Opened
with_inner name new [] = []
with_inner name new (d ∷ ds) = if is_in name d.0 then under name new ++ outside name ds else d ∷ with_inner name new ds

-- the directory at the top after a descent: each directory above is at the name of the next one, and the names are from
-- the last to the first
abbrev pub rebuilt : Path → Opened → Opened → Opened
rebuilt [] above here = here
rebuilt (name ∷ names) above here = rebuilt names (inner name above) (with_inner name here above)

-- the directory of each name is open in the directory above
abbrev pub AreAbove : Path → Opened → Type 0
AreAbove [] above = Unit {0}
AreAbove (name ∷ names) above = (has_inner name above ≡ true) × AreAbove names (inner name above)

-- the directory is open and has an entry of tree mode of the name
abbrev pub HasTreeAt : List ℕ → Dirs → Type 0
HasTreeAt name dirs = (entries : List EntryView) × (dirs [] ≡ Some entries) × (has_tree name entries ≡ true)

-- each directory along the path has an entry of tree mode of the next name
abbrev pub HaveTrees : Path → Dirs → Type 0
HaveTrees [] dirs = Unit {0}
HaveTrees (name ∷ names) dirs = HasTreeAt name dirs × HaveTrees names (in_dir name dirs)

-- the directory of the name was exchanged for another; a second exchange restores both
pub record IsExchanged (name : List ℕ) (old other new taken : Opened) : Type 0 where
  pub taken_is : taken ≡ inner name old
  pub new_is : new ≡ with_inner name other old
  pub has_again : has_inner name new ≡ true
  pub inner_again : inner name new ≡ other
  pub old_again : with_inner name taken new ≡ old
  pub tree : HasTreeAt name (dirs_of old)
  pub taken_root : (entries : List EntryView) × (dirs_of taken [] ≡ Some entries)

-- a descent along these names, from one directory to another
pub record IsDescended (names : Path) (old here above : Opened) : Type 0 where
  pub rebuilt_is : rebuilt (reverse names) above here ≡ old
  pub are_above : AreAbove (reverse names) above
  pub trees : HaveTrees names (dirs_of old)

-- the directory at the top, after a descent of this depth along the path
abbrev pub top_of : List BString → ℕ → Opened → Opened → Opened
top_of path depth above here = rebuilt (reverse (names_of (take depth path))) above here

-- open directories have the same entries afterwards
abbrev pub KeepsOpen : Dirs → Dirs → Type 0
KeepsOpen old new = (at : Path) (entries : List EntryView) → old at ≡ Some entries → new at ≡ Some entries

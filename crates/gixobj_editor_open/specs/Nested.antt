-- Nested open directories as one list: each open path with its entries and its base, from the top.
use Rattle.std.specs.Prelude.{◌≡◌, ℕ, Bool, true, not, List, [], ◌∷◌, ◌++◌, map, length, None, if◌then◌else◌}
use Rattle.std.proofs.Common.{arith}
use Rattle.std.specs.List.{AllByRecursion, filter}
use Rattle.std.specs.Ordering.{nat_cmp}
use Rattle.std.specs.declared.cmp.Ordering.TheVariants.{Less}
use Rattle.std.specs.Cmp.Lexicographic.{slice_cmp}
use Rattle.std.specs.FinMap.{find}
use Rattle.std.specs.declared.alloc.Global.{Global}
use Rattle.std.specs.declared.vec.Vec.{Vec}
use Rattle.bstr.specs.Owned.{bstring_bytes}
use Rattle.gixobj_tree_entries.specs.Entries.{EntryView}
use Rattle.gixobj_tree_entries.specs.KeyOrder.{key_of}
use Rattle.gixobj_tree.specs.WellFormed.{EachLater, IsWellFormed}
use Rattle.gixobj_editor_entries.specs.Pieces.{AreNonEmpty, joined, with_item}
use Rattle.gixobj_editor_files.specs.Editing.{has_tree, same_name}
use Rattle.gixobj_editor_files.specs.Files.{Path}
use Rattle.gixobj_editor_files.specs.Opening.{Dirs}
use Rattle.gixobj_editor_open.specs.declared.open.Child.{Child}
use Rattle.gixobj_editor_open.specs.declared.open.Children.{Children}

-- the entries of an open directory, and its base
abbrev pub Level : Type 0
Level = List EntryView × List EntryView

-- the open directories, each with its path
abbrev pub Opened : Type 0
Opened = List (Path × Level)

-- the open directories with a name before each path
abbrev pub under : List ℕ → Opened → Opened
under name [] = []
under name (d ∷ ds) = (name ∷ d.0, d.1) ∷ under name ds

-- the name of a directory, and what is open in it
abbrev pub Part : Type 0
Part = List ℕ × Opened

-- the name of a child, and what is open in it
abbrev pub part : Child → Part
part child = (bstring_bytes child.name, child.open)

-- the name of the child is this one
abbrev pub called : List ℕ → Child → Bool
called name child = same_name (bstring_bytes child.name) name

-- the key of the entry of a child
abbrev pub child_key : Child → List ℕ
child_key child = key_of (bstring_bytes child.name) true

-- the children of a directory, in one list
abbrev pub child_list : Children → List Child
child_list children = joined (λ (p : Vec Child Global). p.items) children.first.items children.more.items

-- no piece of the children but the first is empty
abbrev pub AreFilled : Children → Type 0
AreFilled children = AreNonEmpty (λ (p : Vec Child Global). p.items) children.more.items

-- the names of children, and what is open in each
abbrev pub parts : List Child → List Part
parts children = map part children

-- what is open below a directory, in the directories in it
abbrev pub below : List Part → Opened
below [] = []
below (p ∷ ps) = under p.0 p.1 ++ below ps

-- what is open at and below a directory
abbrev pub opened : List EntryView → List EntryView → List Part → Opened
opened entries base ps = ([], (entries, base)) ∷ below ps

-- one list of each open directory, by the path
abbrev pub side_list : (Level → List EntryView) → Opened → List (Path × List EntryView)
side_list side [] = []
side_list side (d ∷ ds) = (d.0, side d.1) ∷ side_list side ds

-- one list of each open directory, as a function of the path
abbrev pub at_side : (Level → List EntryView) → Opened → Dirs
at_side side ds = λ path. find (slice_cmp (slice_cmp nat_cmp)) path (side_list side ds)

-- the entries of an open directory
abbrev pub entries_side : Level → List EntryView
entries_side level = level.0

-- the base of an open directory
abbrev pub base_side : Level → List EntryView
base_side level = level.1

-- the entries of each open directory, as a function of the path
abbrev pub dirs_of : Opened → Dirs
dirs_of ds = at_side entries_side ds

-- the base of each open directory, as a function of the path
abbrev pub bases_of : Opened → Dirs
bases_of ds = at_side base_side ds

-- the key of a directory's entry
abbrev pub part_key : Part → List ℕ
part_key p = key_of p.0 true

-- the directories are in the order of their entries
abbrev pub AreOrdered : List Part → Type 0
AreOrdered ps = EachLater (λ p q. slice_cmp nat_cmp (part_key p) (part_key q) ≡ Less) ps

-- the invariant of one level; its tree is well-formed; the open directories in it are in the order of their entries,
-- and each has the name of an entry of tree mode
pub record IsLevel (entries : List EntryView) (ps : List Part) : Type 0 where
  pub formed : IsWellFormed entries
  pub ordered : AreOrdered ps
  pub above : AllByRecursion (λ p. has_tree p.0 entries ≡ true) ps

-- the invariant of an open directory: that of its level, with the open directories in it in pieces
pub record IsPiecedLevel (entries : List EntryView) (children : Children) : Type 0 where
  pub level : IsLevel entries (parts (child_list children))
  pub filled : AreFilled children

-- a name before each path leaves the number of open directories unchanged
pub length-under : (name : List ℕ) (ds : Opened) → length (under name ds) ≡ length ds
length-under name [] = omega arith
length-under name (d ∷ ds) = omega (arith, length-under name ds)

-- one list of what is open in the directory of a name
abbrev pub part_at : (Level → List EntryView) → List ℕ → List Part → Dirs
part_at side name [] path = None
part_at side name (p ∷ ps) path = if same_name p.0 name then at_side side p.1 path else part_at side name ps path

-- the entries of what is open in the directory of a name
abbrev pub in_part : List ℕ → List Part → Dirs
in_part name ps = part_at entries_side name ps

-- the bases of what is open in the directory of a name
abbrev pub bases_in : List ℕ → List Part → Dirs
bases_in name ps = part_at base_side name ps

-- the directories of other names
abbrev pub other_parts : List ℕ → List Part → List Part
other_parts name ps = filter (λ p. not (same_name p.0 name)) ps

-- the directories with this one at the position of its key, in place of any of its key
abbrev pub with_part : Part → List Part → List Part
with_part p ps = with_item part_key p ps

-- A written tree next to its base: its entries so far.
use Rattle.std.specs.Prelude.{◌≢◌, ◌≤◌, List, ◌++◌, length, take}
use Rattle.gixobj_tree_entries.specs.Entries.{EntryView}
use Rattle.gixobj_hash.specs.declared.hash.object_id.ObjectId.{ObjectId}
use Rattle.gixobj_editor_files.specs.declared.written_tree.WrittenTree.{WrittenTree}
use Rattle.gixobj_editor_files.specs.declared.written_tree.WrittenTree.TheVariants.{Prefix, Copied}

-- the entry with this id
abbrev pub with_id : EntryView → ObjectId → EntryView
with_id e id = record { mode = e.mode; name = e.name; id = id }

-- the entries so far: a prefix of the base, or entries of its own
abbrev pub so_far : List EntryView → WrittenTree → List EntryView
so_far base (Prefix same) = take same base
so_far base (Copied list) = list.items

-- the invariant of a written tree: its number of entries is at most that of the base, or its own entries are no prefix
-- of the base
abbrev pub SharesBase : List EntryView → WrittenTree → Type 0
SharesBase base (Prefix same) = same ≤ length base
SharesBase base (Copied list) = (rest : List EntryView) → list.items ++ rest ≢ base

-- Trees whose encoding doesn't decode to them: one with the mode 140755 is written with 040755 (git-fast-import,
-- "filemodify", has the modes).
use Rattle.std.specs.Prelude.{ℕ, List}
use Rattle.gixobj_hash.specs.declared.hash.kind.Kind.{Kind}
use Rattle.gixobj_tree.specs.TreeEncoding.{encode_tree}
use Rattle.gixobj_tree_entries.specs.Entries.{EntryView}
use Rattle.gixobj_tree_entries.specs.TreeDecoding.{DecodesToTree}

-- the encoding of the tree decodes to it
abbrev pub IsLossless : Kind → List EntryView → Type 0
IsLossless hash entries = DecodesToTree hash (encode_tree entries) entries

-- the bytes decode to a lossy tree: its encoding doesn't decode to it
abbrev pub DecodesToLossyTree : Kind → List ℕ → Type 0
DecodesToLossyTree hash bytes = (entries : List EntryView) × DecodesToTree hash bytes entries
    × (¬ IsLossless hash entries)

-- the bytes decode to no lossy tree
abbrev pub DecodesToNoLossyTree : Kind → List ℕ → Type 0
DecodesToNoLossyTree hash bytes = (entries : List EntryView) → DecodesToTree hash bytes entries
    → IsLossless hash entries

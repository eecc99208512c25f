-- The size of the encoding of a tree.
use Rattle.std.specs.Prelude.{◌+◌, ◌*◌, ℕ, List, ◌++◌}
use Rattle.gixobj_tree_entries.specs.Entries.{EntryView}
use Rattle.gixobj_tree_entries.specs.Mode.{encode_mode}

-- the mode and the name of an entry, without the space, the zero byte and the id
abbrev pub encode_mode_and_name : EntryView → List ℕ
encode_mode_and_name e = encode_mode e.mode ++ e.name

-- a size, plus 22 bytes for each entry (a space, a zero byte and an id), plus 12 for each `longer` id of 32 bytes
abbrev pub with_ids : ℕ → ℕ → ℕ → ℕ
with_ids size entries longer = size + 22 * entries + 12 * longer

-- Filtered trees: some entries of a tree, in their order, with other ids.
use Rattle.std.specs.Prelude.{◌≡◌, ◌⊎◌, ℕ, List, [], ◌∷◌, if◌then◌else◌}
use Rattle.gixobj_tree_entries.specs.Entries.{EntryView}
use Rattle.gixobj_hash.specs.Hash.{null_id}
use Rattle.gixobj_hash.specs.declared.hash.kind.Kind.TheVariants.{Sha1}
use Rattle.gixobj_hash.specs.declared.hash.object_id.ObjectId.{ObjectId}
use Rattle.gixobj_editor_files.specs.Editing.{same_name}
use Rattle.gixobj_editor_files.specs.WrittenTrees.{with_id}

-- entry by entry, the first list leaves an entry of the second out, or has it with some id
abbrev pub IsFilteredTree : List EntryView → List EntryView → Type 0
IsFilteredTree written_tree [] = written_tree ≡ []
IsFilteredTree written_tree (e ∷ es) = IsFilteredTree written_tree es
    ⊎ ((id : ObjectId) × (rest : List EntryView) × (written_tree ≡ with_id e id ∷ rest) × IsFilteredTree rest es)

-- the id of the first entry if it has this name, and else the null id
abbrev pub first_id_if_named : List ℕ → List EntryView → ObjectId
first_id_if_named name [] = null_id Sha1
first_id_if_named name (x ∷ xs) = if same_name x.name name then x.id else null_id Sha1

-- the entries after the first if that has this name, and else all of them
abbrev pub after_first_if_named : List ℕ → List EntryView → List EntryView
after_first_if_named name [] = []
after_first_if_named name (x ∷ xs) = if same_name x.name name then xs else x ∷ xs

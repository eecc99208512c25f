-- Leaf trees: trees of directories that are emitted without a copy, and moved after the last call.
use Rattle.std.specs.Prelude.{◌&&◌, ◌==◌, Bool, true, false, not, List, [], ◌∷◌, ◌++◌, length, if◌then◌else◌}
use Rattle.std.specs.List.{list_all}
use Rattle.gixobj_tree_entries.specs.Entries.{EntryView}
use Rattle.gixobj_tree_entries.specs.EntryOrder.{same_tree}
use Rattle.gixobj_editor_files.specs.Editing.{same_name}
use Rattle.gixobj_editor_files.specs.Files.{Path, is_null}
use Rattle.gixobj_editor_open.specs.Nested.{Level, Opened}

-- the second path is at or below the first
abbrev pub is_at_or_below : Path → Path → Bool
is_at_or_below [] path = true
is_at_or_below (name ∷ rest) [] = false
is_at_or_below (name ∷ rest) (next ∷ path) = same_name next name && is_at_or_below rest path

-- the first of these directories, if there is one, is at or below this path
abbrev pub is_above : Path → Opened → Bool
is_above path [] = false
is_above path (d ∷ ds) = is_at_or_below path d.0

-- a leaf tree has entries, none of them with a null id, and isn't the base
abbrev pub is_leaf_tree : Level → Bool
is_leaf_tree level = not (length level.0 == 0) && list_all (λ e. not (is_null e.id)) level.0 && not
    (same_tree level.0 level.1)

-- the leaf trees of the directories in which no directory is open, in the order in which they are emitted
abbrev pub leaf_trees : Opened → List (List EntryView)
leaf_trees [] = []
leaf_trees (d ∷ ds) = (if not (is_above d.0 ds) && is_leaf_tree d.1 then d.1.0 ∷ [] else []) ++ leaf_trees ds

-- the open directories without the first, which is the directory itself
abbrev pub inside_of : Opened → Opened
inside_of [] = []
inside_of (d ∷ ds) = ds

-- the leaf trees below a directory that waits, followed by those of the directory that is next
abbrev pub waiting_trees : Opened → Opened → List (List EntryView)
waiting_trees rest next = leaf_trees (inside_of rest) ++ leaf_trees next

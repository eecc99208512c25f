-- Views of commands, in which a path is the list of its names.
use Rattle.std.specs.Prelude.{ℕ, List, map}
use Rattle.bstr.specs.Owned.{bstring_bytes}
use Rattle.bstr.specs.declared.bstring.BString.{BString}
use Rattle.gixobj_hash.specs.declared.hash.object_id.ObjectId.{ObjectId}
use Rattle.gixobj_tree_entries.specs.Entries.{EntryView}
use Rattle.gixobj_tree_entries.specs.declared.entry_kind.EntryKind.{EntryKind}
use Rattle.gixobj_editor_commands.specs.declared.command.Command.{Command}
use Rattle.gixobj_editor_commands.specs.declared.command.Command.TheVariants as command
use Rattle.gixobj_editor_commands.specs.declared.command.Edit.{Edit}
use Rattle.gixobj_editor_commands.specs.declared.command.Edit.TheVariants as edit

-- an edit, or a write
pub data EditView : Type 0 where
  upsert : List (List ℕ) → EntryKind → ObjectId → EditView
  remove : List (List ℕ) → EditView
  remove_leaf : List (List ℕ) → EditView
  write : EditView

-- a command: an edit from the root, edits from the directory at a prefix, or a new root with these entries
pub data CommandView : Type 0 where
  one_edit : EditView → CommandView
  edits_at : List (List ℕ) → List EditView → CommandView
  set_root : List EntryView → CommandView

-- the names of a path
abbrev pub path_names : List BString → List (List ℕ)
path_names path = map bstring_bytes path

-- the view of an edit
abbrev pub edit_view : Edit → EditView
edit_view (edit.Upsert path kind id) = upsert (path_names path.items) kind id
edit_view (edit.Remove path) = remove (path_names path.items)
edit_view (edit.RemoveLeaf path) = remove_leaf (path_names path.items)
edit_view edit.Write = write

-- the view of a command
abbrev pub command_view : Command → CommandView
command_view (command.Edit it) = one_edit (edit_view it)
command_view (command.At prefix edits) = edits_at (path_names prefix.items) (map edit_view edits.items)
command_view (command.SetRoot root) = set_root root

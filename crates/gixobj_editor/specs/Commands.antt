-- The steps of the accepted commands of a run, and the trees that its writes emit.
use Rattle.std.specs.Prelude.{ℕ, zero, suc, List, [], ◌∷◌, ◌++◌, Option, Some, None, take}
use Rattle.std.specs.List.{flat_map}
use Rattle.gixobj_editor_commands.specs.declared.command.Command.{Command}
use Rattle.gixobj_editor_commands.specs.declared.command.Command.TheVariants as command
use Rattle.gixobj_editor_commands.specs.declared.command.Edit.{Edit}
use Rattle.gixobj_editor_commands.specs.declared.command.Edit.TheVariants as edit
use Rattle.gixobj_editor_open.specs.Paths.{names_of}
use Rattle.gixobj_editor_write.specs.declared.write.Written.{Written}
use Rattle.gixobj_editor_lookups.specs.EditNames.{from_root}
use Rattle.gixobj_editor.specs.Cursors.{cursor_path}
use Rattle.gixobj_editor_files.specs.Files.{Path}
use Rattle.gixobj_editor_files.specs.History.{Step, ensure, remove, set_root, upsert}
use Rattle.gixobj_tree_entries.specs.Entries.{Pair}
use Rattle.gixobj_tree_entries.specs.Mode.{mode_of_kind}
use Rattle.gixobj_editor.specs.declared.reply.EditReply.{EditReply}
use Rattle.gixobj_editor.specs.declared.reply.EditReply.TheVariants as edit_reply
use Rattle.gixobj_editor.specs.declared.reply.Reply.{Reply}
use Rattle.gixobj_editor.specs.declared.reply.Reply.TheVariants as reply

-- the location of an edit: the root of the editor, or a cursor at a prefix
pub data Location : Type 0 where
  at_root : Location
  at_cursor : Path → Location

-- the path from the root of an edit's path
abbrev pub path_at : Location → Path → Path
path_at at_root path = path
path_at (at_cursor prefix) path = from_root prefix path

-- the steps of an edit by its reply: one for an accepted edit, none for a failed one and for a write
abbrev pub steps_of_edit : {E : Type 0} → Location → Edit → EditReply E → List Step
steps_of_edit location (edit.Upsert path kind id) edit_reply.Done =
    upsert (path_at location (names_of path.items)) (mode_of_kind kind) id ∷ []
steps_of_edit location (edit.Remove path) edit_reply.Done = remove (path_at location (names_of path.items)) ∷ []
steps_of_edit location (edit.RemoveLeaf path) edit_reply.Done = remove (path_at location (names_of path.items)) ∷ []
steps_of_edit location it its_reply = []

-- the steps of the accepted edits, in order
abbrev pub steps_of_edits : {E : Type 0} → Location → List Edit → List (EditReply E) → List Step
steps_of_edits location (it ∷ edits) (its_reply ∷ replies) =
    steps_of_edit location it its_reply ++ steps_of_edits location edits replies
steps_of_edits location edits replies = []

-- the steps of edits by a cursor: if the cursor is made, its directory is ensured, and then come the accepted edits
abbrev pub steps_at : {E : Type 0} → Path → List Edit → Reply E → List Step
steps_at prefix edits (reply.At replies) = ensure prefix ∷ steps_of_edits (at_cursor prefix) edits replies.items
steps_at prefix edits its_reply = []

-- the steps of a command by its reply: none for a failed one
abbrev pub steps_of : {E : Type 0} → Command → Reply E → List Step
steps_of (command.Edit it) (reply.Edit its_reply) = steps_of_edit at_root it its_reply
steps_of (command.At prefix edits) its_reply = steps_at (cursor_path (names_of prefix.items)) edits.items its_reply
steps_of (command.SetRoot entries) reply.RootSet = set_root entries ∷ []
steps_of it its_reply = []

-- the steps of the accepted commands, in order
abbrev pub accepted_steps : {E : Type 0} → List Command → List (Reply E) → List Step
accepted_steps (it ∷ commands) (its_reply ∷ replies) = steps_of it its_reply ++ accepted_steps commands replies
accepted_steps commands replies = []

-- the result of a successful write, whether its trees are kept or not
abbrev pub written_by_edit : {E : Type 0} → EditReply E → Option Written
written_by_edit (edit_reply.Written written) = Some written
written_by_edit (edit_reply.NotKept written count error) = Some written
written_by_edit its_reply = None

-- the result of a successful write of the root
abbrev pub written_by : {E : Type 0} → Reply E → Option Written
written_by (reply.Edit its_reply) = written_by_edit its_reply
written_by its_reply = None

-- the result of the write of the root that reply number k reports, counted from 0
abbrev pub written_at : {E : Type 0} → List (Reply E) → ℕ → Option Written
written_at [] k = None
written_at (its_reply ∷ replies) zero = written_by its_reply
written_at (its_reply ∷ replies) (suc k) = written_at replies k

-- the emitted pairs of a write, each an id and its tree; none for a failed write
abbrev pub pairs_of_write : Option Written → List Pair
pairs_of_write None = []
pairs_of_write (Some written) = written.trees.items

-- the emitted pairs of a write, by its reply
abbrev pub pairs_of_edit : {E : Type 0} → EditReply E → List Pair
pairs_of_edit its_reply = pairs_of_write (written_by_edit its_reply)

-- the emitted pairs of a command's writes, by its reply
abbrev pub pairs_of : {E : Type 0} → Reply E → List Pair
pairs_of (reply.Edit its_reply) = pairs_of_edit its_reply
pairs_of (reply.At replies) = flat_map pairs_of_edit replies.items
pairs_of its_reply = []

-- the emitted pairs of all successful writes of a run, in order
abbrev pub emitted_pairs : {E : Type 0} → List (Reply E) → List Pair
emitted_pairs replies = flat_map pairs_of replies

-- the emitted pairs of a write that the store has kept
abbrev pub kept_of_edit : {E : Type 0} → EditReply E → List Pair
kept_of_edit (edit_reply.Written written) = written.trees.items
kept_of_edit (edit_reply.NotKept written count error) = take count written.trees.items
kept_of_edit its_reply = []

-- the emitted pairs of a command's writes that the store has kept
abbrev pub kept_of : {E : Type 0} → Reply E → List Pair
kept_of (reply.Edit its_reply) = kept_of_edit its_reply
kept_of (reply.At replies) = flat_map kept_of_edit replies.items
kept_of its_reply = []

-- the emitted pairs of a run that the store has kept, in order
abbrev pub kept_pairs : {E : Type 0} → List (Reply E) → List Pair
kept_pairs replies = flat_map kept_of replies

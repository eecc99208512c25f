-- A run by a relation of answers is a run by each wider relation; used for the report of `edit`.
use Rattle.std.proofs.Common.{List, [], ◌∷◌, Err, Ok, Result}
use Rattle.std.specs.List.{FoldsTo}
use Rattle.gixobj_editor_commands.specs.declared.command.Command.{Command}
use Rattle.gixobj_editor_commands.specs.declared.command.Command.TheVariants as command
use Rattle.gixobj_editor_commands.specs.declared.command.Edit.{Edit}
use Rattle.gixobj_editor_commands.specs.declared.command.Edit.TheVariants as edit
use Rattle.gixobj_store.specs.Stores.{StoreModel, Objects}
use Rattle.gixobj_editor_write.specs.Calls.{names_of}
use Rattle.gixobj_editor_write.specs.WriteErrors.{IsWriteError}
use Rattle.gixobj_editor_write.specs.declared.write.WriteError.{WriteError}
use Rattle.gixobj_editor_write.specs.declared.write.WriteError.TheVariants as write
use Rattle.gixobj_editor_write.specs.declared.write.Written.{Written}
use Rattle.gixobj_editor.specs.Cursors.{cursor_path}
use Rattle.gixobj_editor_files.specs.Files.{Path}
use Rattle.gixobj_editor_files.specs.Emission.{EmitsSome}
use Rattle.gixobj_editor_files.specs.State.{State, open_bases, open_dirs}
use Rattle.gixobj_hash.specs.declared.hash.object_id.ObjectId.{ObjectId}
use Rattle.gixobj_tree_entries.specs.Entries.{EntryView, Pair}
use Rattle.gixobj_editor.specs.Commands.{Location, at_cursor, at_root}
use Rattle.gixobj_editor.specs.Replies.{Answers, AreEditReplies, Denies, ReturnsTreeId, IsEditReply, IsFailedWrite, IsReply, IsReplyAt, IsRun, IsWriteKept}
use Rattle.gixobj_editor.specs.Replies.{IsWrittenAt, dirs_at}
use Rattle.gixobj_editor.specs.declared.reply.EditReply.{EditReply}
use Rattle.gixobj_editor.specs.declared.reply.EditReply.TheVariants as edit_reply
use Rattle.gixobj_editor.specs.declared.reply.Reply.{Reply}
use Rattle.gixobj_editor.specs.declared.reply.Reply.TheVariants as reply

module _ {S E : Type 0} (model : StoreModel S) (answers wider : Answers E) (within : (tree : List EntryView) (answer : Result ObjectId E)
    → answers tree answer
    → wider tree answer) where
  folds : (requested_hash : Unit {0}) (pairs : List Pair) (answered : Unit {0}) → FoldsTo (ReturnsTreeId answers) requested_hash pairs answered
      → FoldsTo (ReturnsTreeId wider) requested_hash pairs answered
  folds requested_hash [] answered is = is
  folds requested_hash (pair ∷ pairs) answered (next, one, rest) = (next, within pair.1 (Ok pair.0) one, folds next pairs answered rest)

  written : (location : Location) (it : Written) (old new : State S) → IsWrittenAt answers location it old new → IsWrittenAt wider location it old new
  written at_root it old new is = record {
    emitted = is.emitted;
    called = folds tt it.trees.items tt is.called;
    storable = is.storable;
    below = is.below;
    written_tree = is.written_tree;
    last = is.last;
    dirs = is.dirs;
    bases = is.bases;
    rest = is.rest;
    files = is.files;
    same_files = is.same_files;
    has_bases = is.has_bases;
  }
  written (at_cursor prefix) it old new is = record {
    emitted = is.emitted;
    called = folds tt it.trees.items tt is.called;
    storable = is.storable;
    below = is.below;
    written_tree = is.written_tree;
    last = is.last;
    dirs = is.dirs;
    bases = is.bases;
    rest = is.rest;
    is_opened = is.is_opened;
    files = is.files;
    same_files = is.same_files;
    has_bases = is.has_bases;
  }

  kept : (location : Location) (it : Written) (Keeps : Objects → Objects → Type 0) (old new : State S)
      → IsWriteKept model (IsWrittenAt answers location it old) Keeps old new
      → IsWriteKept model (IsWrittenAt wider location it old) Keeps old new
  kept location it Keeps old new is =
      record {
        between = is.between;
        written = written location it old is.between is.written;
        rest = is.rest;
        stored = is.stored;
        may_fail = is.may_fail;
      }

  stopped : (EmitsPairs : List Pair → Type 0) (error : WriteError E) → IsWriteError (ReturnsTreeId answers) (Denies answers) EmitsPairs tt tt error
      → IsWriteError (ReturnsTreeId wider) (Denies wider) EmitsPairs tt tt error
  stopped EmitsPairs (write.Out cause) is =
      record {
        before = is.before;
        tree = is.tree;
        between = is.between;
        called = folds tt is.before is.between is.called;
        failed = within is.tree (Err cause) is.failed;
        emitted = is.emitted;
      }
  stopped EmitsPairs write.OutOfMemory is = record { before = is.before; rest = is.rest; called = folds tt is.before tt is.called; emitted = is.emitted }

  failed_write : (location : Location) (old : State S) (error : WriteError E) (new : State S) → IsFailedWrite answers location old error new
      → IsFailedWrite wider location old error new
  failed_write location old error new is =
      record {
        cause = stopped (EmitsSome (dirs_at location (open_dirs old)) (dirs_at location (open_bases old))) error is.cause;
        unchanged = is.unchanged;
      }

  edit_reply_wider : (location : Location) (old new : State S) (it : Edit) (its_reply : EditReply E) → IsEditReply model answers location old it its_reply new
      → IsEditReply model wider location old it its_reply new
  edit_reply_wider location old new (edit.Upsert path kind id) edit_reply.Done is = is
  edit_reply_wider location old new (edit.Upsert path kind id) (edit_reply.Refused error) is = is
  edit_reply_wider location old new (edit.Remove path) edit_reply.Done is = is
  edit_reply_wider location old new (edit.Remove path) (edit_reply.Refused error) is = is
  edit_reply_wider location old new (edit.RemoveLeaf path) edit_reply.Done is = is
  edit_reply_wider location old new (edit.RemoveLeaf path) (edit_reply.Refused error) is = is
  edit_reply_wider location old new edit.Write (edit_reply.Written it) is = kept location it _ old new is
  edit_reply_wider location old new edit.Write (edit_reply.NotKept it count error) is = kept location it _ old new is
  edit_reply_wider location old new edit.Write (edit_reply.WriteRefused error) is = failed_write location old error new is
  edit_reply_wider location old new it its_reply is = absurd is

  edit_replies_wider : (location : Location) (old new : State S) (edits : List Edit) (replies : List (EditReply E))
      → AreEditReplies model answers location old edits replies new
      → AreEditReplies model wider location old edits replies new
  edit_replies_wider location old new [] [] is = is
  edit_replies_wider location old new (it ∷ edits) (its_reply ∷ replies) (between, first, rest) =
      (between, edit_reply_wider location old between it its_reply first, edit_replies_wider location between new edits replies rest)
  edit_replies_wider location old new [] (its_reply ∷ replies) is = absurd is
  edit_replies_wider location old new (it ∷ edits) [] is = absurd is

  reply_at_wider : (prefix : Path) (old new : State S) (edits : List Edit) (its_reply : Reply E)
      → IsReplyAt model answers prefix old edits its_reply new
      → IsReplyAt model wider prefix old edits its_reply new
  reply_at_wider prefix old new edits (reply.At replies) (between, ensured, rest) =
      (between, ensured, edit_replies_wider (at_cursor prefix) between new edits replies.items rest)
  reply_at_wider prefix old new edits (reply.AtRefused error) is = is
  reply_at_wider prefix old new edits its_reply is = absurd is

  reply_wider : (old new : State S) (it : Command) (its_reply : Reply E) → IsReply model answers old it its_reply new
      → IsReply model wider old it its_reply new
  reply_wider old new (command.Edit it) (reply.Edit its_reply) is = edit_reply_wider at_root old new it its_reply is
  reply_wider old new (command.At prefix edits) its_reply is = reply_at_wider (cursor_path (names_of prefix.items)) old new edits.items its_reply is
  reply_wider old new (command.SetRoot entries) reply.RootSet is = is
  reply_wider old new (command.SetRoot entries) reply.RootRefused is = is
  reply_wider old new it its_reply is = absurd is

  pub run_wider : (old new : State S) (commands : List Command) (replies : List (Reply E)) → IsRun model answers old commands replies new
      → IsRun model wider old commands replies new
  run_wider old new [] [] is = is
  run_wider old new (it ∷ commands) (its_reply ∷ replies) (between, first, rest) =
      (between, reply_wider old between it its_reply first, run_wider between new commands replies rest)
  run_wider old new [] (its_reply ∷ replies) is = absurd is
  run_wider old new (it ∷ commands) [] is = absurd is

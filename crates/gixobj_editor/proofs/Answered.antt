-- The emitted pairs of a run's writes are what its closure returned.
use Rattle.std.proofs.Common.{All, List, [], ◌∷◌, Ok}
use Rattle.std.proofs.lemmas.List.Elements.{All-append, All-cons, All-nil}
use Rattle.std.specs.List.{FoldsTo, flat_map}
use Rattle.gixobj_editor_commands.specs.declared.command.Command.{Command}
use Rattle.gixobj_editor_commands.specs.declared.command.Command.TheVariants as command
use Rattle.gixobj_editor_commands.specs.declared.command.Edit.{Edit}
use Rattle.gixobj_editor_commands.specs.declared.command.Edit.TheVariants as edit
use Rattle.gixobj_editor_open.specs.Paths.{names_of}
use Rattle.gixobj_editor_write.specs.declared.write.Written.{Written}
use Rattle.gixobj_editor.specs.Cursors.{cursor_path}
use Rattle.gixobj_editor_files.specs.Files.{Path}
use Rattle.gixobj_editor_files.specs.State.{State}
use Rattle.gixobj_tree_entries.specs.Entries.{Pair}
use Rattle.gixobj_editor.specs.Commands.{Location, at_cursor, at_root, emitted_pairs, pairs_of, pairs_of_edit}
use Rattle.gixobj_editor.specs.Replies.{Answers, AreEditReplies, ReturnsTreeId, IsEditReply, IsReply, IsReplyAt, IsRun, IsWrittenAt}
use Rattle.gixobj_editor.specs.declared.reply.EditReply.{EditReply}
use Rattle.gixobj_editor.specs.declared.reply.EditReply.TheVariants as edit_reply
use Rattle.gixobj_editor.specs.declared.reply.Reply.{Reply}
use Rattle.gixobj_editor.specs.declared.reply.Reply.TheVariants as reply
use Rattle.gixobj_store.specs.Stores.{StoreModel}

module _ {S E : Type 0} (model : StoreModel S) (answers : Answers E) where
  -- the id is the closure's result for the tree
  abbrev pub IsAnswered : Pair → Type 0
  IsAnswered pair = answers pair.1 (Ok pair.0)

  called : (requested : Unit {0}) (pairs : List Pair) (answered : Unit {0}) → FoldsTo (ReturnsTreeId answers) requested pairs answered → All IsAnswered pairs
  called requested [] answered is = All-nil IsAnswered
  called requested (pair ∷ pairs) answered (next, one, rest) = All-cons IsAnswered pair pairs one (called next pairs answered rest)

  written : (location : Location) (it : Written) (old new : State S) → IsWrittenAt answers location it old new → All IsAnswered it.trees.items
  written at_root it old new is = called tt it.trees.items tt is.called
  written (at_cursor prefix) it old new is = called tt it.trees.items tt is.called

  edit_answered : (location : Location) (old new : State S) (it : Edit) (its_reply : EditReply E) → IsEditReply model answers location old it its_reply new
      → All IsAnswered (pairs_of_edit its_reply)
  edit_answered location old new edit.Write (edit_reply.Written it) is = written location it old is.between is.written
  edit_answered location old new edit.Write (edit_reply.NotKept it count error) is = written location it old is.between is.written
  edit_answered location old new it edit_reply.Done is = All-nil IsAnswered
  edit_answered location old new it (edit_reply.Refused error) is = All-nil IsAnswered
  edit_answered location old new it (edit_reply.WriteRefused error) is = All-nil IsAnswered
  edit_answered location old new it its_reply is = absurd is

  edits_answered : (location : Location) (old new : State S) (edits : List Edit) (replies : List (EditReply E))
      → AreEditReplies model answers location old edits replies new → All IsAnswered (flat_map pairs_of_edit replies)
  edits_answered location old new [] [] is = All-nil IsAnswered
  edits_answered location old new (it ∷ edits) (its_reply ∷ replies) (between, first, rest) =
      All-append IsAnswered (pairs_of_edit its_reply) (flat_map pairs_of_edit replies) (edit_answered location old between it its_reply first)
      (edits_answered location between new edits replies rest)
  edits_answered location old new [] (its_reply ∷ replies) is = absurd is
  edits_answered location old new (it ∷ edits) [] is = absurd is

  at_answered : (prefix : Path) (old new : State S) (edits : List Edit) (its_reply : Reply E) → IsReplyAt model answers prefix old edits its_reply new
      → All IsAnswered (pairs_of its_reply)
  at_answered prefix old new edits (reply.At replies) (between, ensured, rest) = edits_answered (at_cursor prefix) between new edits replies.items rest
  at_answered prefix old new edits (reply.AtRefused error) is = All-nil IsAnswered
  at_answered prefix old new edits its_reply is = absurd is

  command_answered : (old new : State S) (it : Command) (its_reply : Reply E) → IsReply model answers old it its_reply new → All IsAnswered (pairs_of its_reply)
  command_answered old new (command.Edit it) (reply.Edit its_reply) is = edit_answered at_root old new it its_reply is
  command_answered old new (command.At prefix edits) its_reply is = at_answered (cursor_path (names_of prefix.items)) old new edits.items its_reply is
  command_answered old new (command.SetRoot entries) reply.RootSet is = All-nil IsAnswered
  command_answered old new (command.SetRoot entries) reply.RootRefused is = All-nil IsAnswered
  command_answered old new it its_reply is = absurd is

  pub run_answered : (old new : State S) (commands : List Command) (replies : List (Reply E)) → IsRun model answers old commands replies new
      → All IsAnswered (emitted_pairs replies)
  run_answered old new [] [] is = All-nil IsAnswered
  run_answered old new (it ∷ commands) (its_reply ∷ replies) (between, first, rest) =
      All-append IsAnswered (pairs_of its_reply) (emitted_pairs replies) (command_answered old between it its_reply first)
      (run_answered between new commands replies rest)
  run_answered old new [] (its_reply ∷ replies) is = absurd is
  run_answered old new (it ∷ commands) [] is = absurd is

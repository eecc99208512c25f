-- Runs whose commands are done: their steps are those of the script, and the trees that they emit can be encoded; used
-- for the call `edited` and its frames.
use Rattle.std.proofs.Common.{◌≡◌, ◌∷◌, ◌++◌, ◌∙◌, All, List, [], ℕ, ap, arith, length, length-append, refl, suc, take, zero}
use Rattle.std.proofs.lemmas.List.Elements.{All-append, All-nil}
use Rattle.std.specs.List.{AllByRecursion, flat_map}
use Rattle.std.specs.Prelude.{None, Option, Some, map}
use Rattle.gixobj_editor_write.specs.Calls.{names_of}
use Rattle.gixobj_editor_write.specs.declared.write.WriteError.TheVariants as write
use Rattle.gixobj_c_edit.specs.Edits.{command_steps, edit_steps, write_of_root}
use Rattle.gixobj_c_edit.specs.Replies.{EndsInWrite, IsReplyToWrite, edit_reply_failure, edits_failure, or_later, reply_failure}
use Rattle.gixobj_c_edit.specs.declared.failure.Failure.{Failure}
use Rattle.gixobj_editor.specs.Commands.{Location, accepted_steps, at_cursor, at_root, emitted_pairs, pairs_of, pairs_of_edit, steps_of, steps_of_edit}
use Rattle.gixobj_editor.specs.Commands.{steps_of_edits}
use Rattle.gixobj_editor.specs.Cursors.{cursor_path}
use Rattle.gixobj_editor.specs.Replies.{Answers, AreEditReplies, IsEditReply, IsReply, IsRun}
use Rattle.gixobj_editor_commands.specs.Views.{command_view, edit_view}
use Rattle.gixobj_editor_commands.specs.declared.command.Command.{Command}
use Rattle.gixobj_editor_commands.specs.declared.command.Command.TheVariants as command
use Rattle.gixobj_editor_commands.specs.declared.command.Edit.{Edit}
use Rattle.gixobj_editor_commands.specs.declared.command.Edit.TheVariants as edit
use Rattle.gixobj_editor.specs.declared.reply.EditReply.{EditReply}
use Rattle.gixobj_editor.specs.declared.reply.EditReply.TheVariants as edit_reply
use Rattle.gixobj_editor.specs.declared.reply.Reply.{Reply}
use Rattle.gixobj_editor.specs.declared.reply.Reply.TheVariants as reply
use Rattle.gixobj_streams.specs.declared.encode.Error.{Error}
use Rattle.gixobj_editor_files.specs.History.{Step, ensure}
use Rattle.gixobj_editor_files.specs.State.{State}
use Rattle.gixobj_store.specs.Stores.{StoreModel}
use Rattle.gixobj_tree_entries.specs.Entries.{Pair}
use Rattle.gixobj_tree.specs.TreeEncoding.{IsEncodableTree}

abbrev pub IsDone : Reply Error → Type 0
IsDone it = reply_failure it ≡ None

abbrev pub IsEncodable : Pair → Type 0
IsEncodable pair = IsEncodableTree pair.1

or_later_none : (first later : Option Failure) → or_later first later ≡ None → (first ≡ None) × (later ≡ None)
or_later_none None later none = (refl, none)
or_later_none (Some it) later none = absurd (cc none)

module _ {S : Type 0} (model : StoreModel S) (answers : Answers Error) where
  -- ---- steps

  edit_done_steps : (location : Location) (old new : State S) (it : Edit) (its_reply : EditReply Error)
      → IsEditReply model answers location old it its_reply new
      → edit_reply_failure its_reply ≡ None → steps_of_edit location it its_reply ≡ edit_steps location (edit_view it)
  edit_done_steps location old new (edit.Upsert path kind id) edit_reply.Done is done = refl
  edit_done_steps location old new (edit.Remove path) edit_reply.Done is done = refl
  edit_done_steps location old new (edit.RemoveLeaf path) edit_reply.Done is done = refl
  edit_done_steps location old new edit.Write (edit_reply.Written written) is done = refl
  edit_done_steps location old new it (edit_reply.Refused error) is done = absurd (cc done)
  edit_done_steps location old new it (edit_reply.WriteRefused (write.Out error)) is done = absurd (cc done)
  edit_done_steps location old new it (edit_reply.WriteRefused write.OutOfMemory) is done = absurd (cc done)
  edit_done_steps location old new it (edit_reply.NotKept written count error) is done = absurd (cc done)
  edit_done_steps location old new it its_reply is done = absurd is

  edits_done_steps : (location : Location) (old new : State S) (edits : List Edit) (replies : List (EditReply Error))
      → AreEditReplies model answers location old edits replies new → edits_failure replies ≡ None
      → steps_of_edits location edits replies ≡ flat_map (edit_steps location) (map edit_view edits)
  edits_done_steps location old new [] [] is done = refl
  edits_done_steps location old new (it ∷ edits) (its_reply ∷ replies) (between, first, rest) done =
      let none = or_later_none (edit_reply_failure its_reply) (edits_failure replies) done in
      ap (λ (steps : List Step). steps ++ steps_of_edits location edits replies) (edit_done_steps location old between it its_reply first none.0)
      ∙ ap (λ (steps : List Step). edit_steps location (edit_view it) ++ steps) (edits_done_steps location between new edits replies rest none.1)
  edits_done_steps location old new [] (its_reply ∷ replies) is done = absurd is
  edits_done_steps location old new (it ∷ edits) [] is done = absurd is

  done_steps : (old new : State S) (it : Command) (its_reply : Reply Error) → IsReply model answers old it its_reply new → IsDone its_reply
      → steps_of it its_reply ≡ command_steps (command_view it)
  done_steps old new (command.Edit it) (reply.Edit its_reply) is done = edit_done_steps at_root old new it its_reply is done
  done_steps old new (command.At prefix edits) (reply.At replies) (between, ensured, rest) done =
      ap (λ (steps : List Step). ensure (cursor_path (names_of prefix.items)) ∷ steps)
      (edits_done_steps (at_cursor (cursor_path (names_of prefix.items))) between new edits.items replies.items rest done)
  done_steps old new (command.At prefix edits) (reply.AtRefused error) is done = absurd (cc done)
  done_steps old new (command.SetRoot entries) reply.RootSet is done = refl
  done_steps old new (command.SetRoot entries) reply.RootRefused is done = absurd (cc done)
  done_steps old new it its_reply is done = absurd is

  pub steps_of_prefix : (k : ℕ) (old new : State S) (commands : List Command) (replies : List (Reply Error)) → IsRun model answers old commands replies new
      → AllByRecursion IsDone (take k replies)
      → accepted_steps (take k commands) (take k replies) ≡ flat_map command_steps (map command_view (take k commands))
  steps_of_prefix zero old new commands replies ran done = refl
  steps_of_prefix (suc k) old new [] [] ran done = refl
  steps_of_prefix (suc k) old new (it ∷ commands) (its_reply ∷ replies) (between, first, rest) (one, more) =
      ap (λ (steps : List Step). steps ++ accepted_steps (take k commands) (take k replies)) (done_steps old between it its_reply first one)
      ∙ ap (λ (steps : List Step). command_steps (command_view it) ++ steps) (steps_of_prefix k between new commands replies rest more)
  steps_of_prefix (suc k) old new [] (its_reply ∷ replies) ran done = absurd ran
  steps_of_prefix (suc k) old new (it ∷ commands) [] ran done = absurd ran

  -- ---- emitted trees

  edit_encodable : (location : Location) (old new : State S) (it : Edit) (its_reply : EditReply Error) → IsEditReply model answers location old it its_reply new
      → edit_reply_failure its_reply ≡ None → All IsEncodable (pairs_of_edit its_reply)
  edit_encodable location old new it edit_reply.Done is done = All-nil IsEncodable
  edit_encodable location old new edit.Write (edit_reply.Written written) is done = is.stored.1
  edit_encodable location old new it (edit_reply.Refused error) is done = absurd (cc done)
  edit_encodable location old new it (edit_reply.WriteRefused (write.Out error)) is done = absurd (cc done)
  edit_encodable location old new it (edit_reply.WriteRefused write.OutOfMemory) is done = absurd (cc done)
  edit_encodable location old new it (edit_reply.NotKept written count error) is done = absurd (cc done)
  edit_encodable location old new it its_reply is done = absurd is

  edits_encodable : (location : Location) (old new : State S) (edits : List Edit) (replies : List (EditReply Error))
      → AreEditReplies model answers location old edits replies new → edits_failure replies ≡ None → All IsEncodable (flat_map pairs_of_edit replies)
  edits_encodable location old new [] [] is done = All-nil IsEncodable
  edits_encodable location old new (it ∷ edits) (its_reply ∷ replies) (between, first, rest) done =
      let none = or_later_none (edit_reply_failure its_reply) (edits_failure replies) done in
      All-append IsEncodable (pairs_of_edit its_reply) (flat_map pairs_of_edit replies) (edit_encodable location old between it its_reply first none.0)
      (edits_encodable location between new edits replies rest none.1)
  edits_encodable location old new [] (its_reply ∷ replies) is done = absurd is
  edits_encodable location old new (it ∷ edits) [] is done = absurd is

  reply_encodable : (old new : State S) (it : Command) (its_reply : Reply Error) → IsReply model answers old it its_reply new → IsDone its_reply
      → All IsEncodable (pairs_of its_reply)
  reply_encodable old new (command.Edit it) (reply.Edit its_reply) is done = edit_encodable at_root old new it its_reply is done
  reply_encodable old new (command.At prefix edits) (reply.At replies) (between, ensured, rest) done =
      edits_encodable (at_cursor (cursor_path (names_of prefix.items))) between new edits.items replies.items rest done
  reply_encodable old new it (reply.AtRefused error) is done = absurd (cc done)
  reply_encodable old new it reply.RootSet is done = All-nil IsEncodable
  reply_encodable old new it reply.RootRefused is done = absurd (cc done)
  reply_encodable old new it its_reply is done = absurd is

  pub run_encodable : (old new : State S) (commands : List Command) (replies : List (Reply Error)) → IsRun model answers old commands replies new
      → AllByRecursion IsDone replies → All IsEncodable (emitted_pairs replies)
  run_encodable old new [] [] ran done = All-nil IsEncodable
  run_encodable old new (it ∷ commands) (its_reply ∷ replies) (between, first, rest) (one, more) =
      All-append IsEncodable (pairs_of its_reply) (emitted_pairs replies) (reply_encodable old between it its_reply first one)
      (run_encodable between new commands replies rest more)
  run_encodable old new [] (its_reply ∷ replies) ran done = absurd ran
  run_encodable old new (it ∷ commands) [] ran done = absurd ran

  -- ---- the last reply

  reply_to_write : (old new : State S) (its_reply : Reply Error) → IsReply model answers old write_of_root its_reply new → IsReplyToWrite its_reply
  reply_to_write old new (reply.Edit (edit_reply.Written written)) is = tt
  reply_to_write old new (reply.Edit (edit_reply.WriteRefused error)) is = tt
  reply_to_write old new (reply.Edit (edit_reply.NotKept written count error)) is = tt
  reply_to_write old new (reply.Edit edit_reply.Done) is = absurd is
  reply_to_write old new (reply.Edit (edit_reply.Refused error)) is = absurd is
  reply_to_write old new (reply.At replies) is = absurd is
  reply_to_write old new (reply.AtRefused error) is = absurd is
  reply_to_write old new reply.RootSet is = absurd is
  reply_to_write old new reply.RootRefused is = absurd is

  pub ends_in_write : (old new : State S) (commands : List Command) (all : List (Reply Error))
      → IsRun model answers old (commands ++ write_of_root ∷ []) all new → EndsInWrite all
  ends_in_write old new [] (its_reply ∷ []) (between, first, rest) = ([], its_reply, refl, reply_to_write old between its_reply first)
  ends_in_write old new [] [] ran = absurd ran
  ends_in_write old new [] (its_reply ∷ other ∷ replies) (between, first, rest) = absurd rest
  ends_in_write old new (it ∷ commands) (its_reply ∷ replies) (between, first, rest) =
      let later = ends_in_write between new commands replies rest in
      (its_reply ∷ later.0, later.1, ap (λ (them : List (Reply Error)). its_reply ∷ them) later.2, later.3)
  ends_in_write old new (it ∷ commands) [] ran = absurd ran

  pub run_lengths : (old new : State S) (commands : List Command) (replies : List (Reply Error)) → IsRun model answers old commands replies new
      → length commands ≡ length replies
  run_lengths old new [] [] ran = refl
  run_lengths old new (it ∷ commands) (its_reply ∷ replies) (between, first, rest) = ap suc (run_lengths between new commands replies rest)
  run_lengths old new [] (its_reply ∷ replies) ran = absurd ran
  run_lengths old new (it ∷ commands) [] ran = absurd ran

  pub lengths_before_last : (old new : State S) (commands : List Command) (last : Command) (replies : List (Reply Error)) (its_reply : Reply Error)
      → IsRun model answers old (commands ++ last ∷ []) (replies ++ its_reply ∷ []) new → length commands ≡ length replies
  lengths_before_last old new commands last replies its_reply ran =
      let same = run_lengths old new (commands ++ last ∷ []) (replies ++ its_reply ∷ []) ran in
      omega (arith, same, length-append commands (last ∷ []), length-append replies (its_reply ∷ []))

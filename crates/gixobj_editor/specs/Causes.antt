-- The causes in replies to writes whose trees aren't all kept: each is an error of the store at that reply.
use Rattle.std.specs.Prelude.{◌≡◌, List, [], ◌∷◌, ⊤}
use Rattle.gixobj_editor_open.specs.Paths.{names_of}
use Rattle.gixobj_editor_lookups.specs.Openings.{OfTrees}
use Rattle.gixobj_editor.specs.Commands.{Location, at_cursor}
use Rattle.gixobj_editor.specs.Cursors.{IsEnsured, cursor_path}
use Rattle.gixobj_editor.specs.Replies.{Answers, IsEditReply, IsReply}
use Rattle.gixobj_editor_commands.specs.declared.command.Command.{Command}
use Rattle.gixobj_editor_commands.specs.declared.command.Command.TheVariants as command
use Rattle.gixobj_editor_commands.specs.declared.command.Edit.{Edit}
use Rattle.gixobj_editor.specs.declared.reply.EditReply.{EditReply}
use Rattle.gixobj_editor.specs.declared.reply.EditReply.TheVariants as edit_reply
use Rattle.gixobj_editor.specs.declared.reply.Reply.{Reply}
use Rattle.gixobj_editor.specs.declared.reply.Reply.TheVariants as reply
use Rattle.gixobj_editor_files.specs.Files.{Path}
use Rattle.gixobj_editor_files.specs.State.{State}
use Rattle.gixobj_store_keep.specs.Keeping.{IsStoreErrorAt, KeepErrors}
use Rattle.gixobj_store.specs.Stores.{Objects, StoreModel}

-- the cause in a reply to a write whose trees aren't all kept: an error of the store, as it was before the write, for
-- the first tree that isn't kept, after those before it are kept; other replies have no cause
abbrev pub HasKeepCause : {S E : Type 0} → (S → Objects) → KeepErrors S → S → EditReply E → Type 0
HasKeepCause objects errors store (edit_reply.NotKept it count error) =
    IsStoreErrorAt objects errors store it.trees.items count error
HasKeepCause objects errors store its_reply = ⊤

module _ {S E : Type 0} (model : StoreModel S) (errors : KeepErrors S) (answers : Answers E) where
  -- the edits may get these replies, one after the other, and each reply has its cause in the state before its edit
  abbrev pub HaveEditCauses : Location → State S → List Edit → List (EditReply E) → State S → Type 0
  HaveEditCauses location old [] [] new = new ≡ old
  HaveEditCauses location old (it ∷ edits) (its_reply ∷ replies) new = (between : State S)
      × IsEditReply model answers location old it its_reply between
      × HasKeepCause model.objects errors old.store its_reply
      × HaveEditCauses location between edits replies new
  HaveEditCauses location old edits replies new = ⊥

  -- the causes in the replies to edits by a cursor at a prefix, which begin once its directory is ensured
  abbrev pub HasCausesAt : Path → State S → List Edit → Reply E → State S → Type 0
  HasCausesAt prefix old edits (reply.At replies) new =
      (between : State S) × OfTrees (model.objects old.store) (λ trees. IsEnsured trees old prefix between)
      × HaveEditCauses (at_cursor prefix) between edits replies.items new
  HasCausesAt prefix old edits its_reply new = ⊤

  -- the causes in the reply to a command
  abbrev pub HasReplyCauses : State S → Command → Reply E → State S → Type 0
  HasReplyCauses old (command.Edit it) (reply.Edit its_reply) new =
      HasKeepCause model.objects errors old.store its_reply
  HasReplyCauses old (command.At prefix edits) its_reply new =
      HasCausesAt (cursor_path (names_of prefix.items)) old edits.items its_reply new
  HasReplyCauses old it its_reply new = ⊤

  -- the commands may get these replies, one after the other, and each reply has its causes in the state before its
  -- command
  abbrev pub HaveRunCauses : State S → List Command → List (Reply E) → State S → Type 0
  HaveRunCauses old [] [] new = new ≡ old
  HaveRunCauses old (it ∷ commands) (its_reply ∷ replies) new = (between : State S)
      × IsReply model answers old it its_reply between × HasReplyCauses old it its_reply between
      × HaveRunCauses between commands replies new
  HaveRunCauses old commands replies new = ⊥

-- Imports, in which edits succeed one after the other, and then a write, all of whose trees the store keeps.
use Rattle.std.specs.Prelude.{◌≡◌, ◌++◌, ◌∷◌, ℕ, Bool, true, false, Contains, List, [], flat_map, length, map, ⊤}
use Rattle.gixobj_examples_edits.specs.declared.importer.ImportError.{ImportError}
use Rattle.gixobj_examples_edits.specs.declared.importer.ImportError.TheVariants as import
use Rattle.gix_object.specs.Keeping.{IsStoreErrorAt, KeepErrors}
use Rattle.gix_object.specs.Stores.{Objects, StoreModel}
use Rattle.gix_object.specs.Commands.{at_root}
use Rattle.gix_object.specs.Edited.{steps_if_done}
use Rattle.gix_object.specs.History.{Step}
use Rattle.gix_object.specs.Replies.{Answers, AreEditReplies, IsEditReply, IsRun}
use Rattle.gix_object.specs.State.{State}
use Rattle.gix_object.specs.commands.command.Command.{Command}
use Rattle.gix_object.specs.commands.command.Command.TheVariants as command
use Rattle.gix_object.specs.commands.command.Edit.{Edit}
use Rattle.gix_object.specs.commands.command.Edit.TheVariants as edit
use Rattle.gix_object.specs.directories.error.Error.{Error}
use Rattle.gix_object.specs.editor.reply.EditReply.{EditReply}
use Rattle.gix_object.specs.editor.reply.EditReply.TheVariants as edit_reply
use Rattle.gix_object.specs.editor.reply.Reply.{Reply}
use Rattle.gix_object.specs.editor.reply.Reply.TheVariants as reply

-- the steps of all edits, in order
abbrev pub import_steps : List Edit → List Step
import_steps edits = flat_map steps_if_done edits

-- a command for each edit, and then one that writes
abbrev pub edits_and_write : List Edit → List Command
edits_and_write edits = map command.Edit edits ++ command.Edit edit.Write ∷ []

-- the edit is accepted
abbrev pub is_done : {E : Type 0} → Reply E → Bool
is_done (reply.Edit edit_reply.Done) = true
is_done its_reply = false

module _ {S E : Type 0} (model : StoreModel S) (answers : Answers E) where
  -- the edits are accepted, one after the other
  abbrev pub AreEditsDone : State S → List Edit → State S → Type 0
  AreEditsDone old edits new = AreEditReplies model answers at_root old edits (map (λ _. edit_reply.Done) edits) new

  -- the edits are accepted, and then the write gets this reply
  pub record HasWriteReply (old : State S) (edits : List Edit) (its_reply : EditReply E) (new : State S) : Type 0 where
    pub edited : State S
    pub done : AreEditsDone old edits edited
    pub write : IsEditReply model answers at_root edited edit.Write its_reply new

  -- the edit with this index fails, those before it are accepted, and those after it and the write are still tried
  pub record IsEditFailedAt (old : State S) (edits : List Edit) (index : ℕ) (error : Error)
      (new : State S) : Type 0 where
    pub before : List Edit
    pub failed_edit : Edit
    pub following : List Edit
    pub split : edits ≡ before ++ failed_edit ∷ following
    pub number : length before ≡ index
    pub reached : State S
    pub done : AreEditsDone old before reached
    pub after : State S
    pub cause : IsEditReply model answers at_root reached failed_edit (edit_reply.Refused error) after
    pub replies : List (Reply E)
    pub rest : IsRun model answers after (edits_and_write following) replies new

  -- the result of an import by its first reply, with its index, other than that to an accepted edit
  abbrev pub Decides : State S → List Edit → ℕ → EditReply E → State S → Type 0
  Decides old edits index edit_reply.Done new = ⊥
  Decides old edits index (edit_reply.Refused error) new = IsEditFailedAt old edits index error new
  Decides old edits index its_reply new = HasWriteReply old edits its_reply new

  -- the errors of an import, and their effect
  abbrev pub FailsImport : State S → List Edit → ImportError E → State S → Type 0
  FailsImport old edits import.HoldsWrite new = Contains edits edit.Write × (new ≡ old)
  FailsImport old edits (import.Edit index error) new = IsEditFailedAt old edits index error new
  FailsImport old edits (import.Write error) new = HasWriteReply old edits (edit_reply.WriteRefused error) new
  FailsImport old edits (import.NotKept written count error) new =
      HasWriteReply old edits (edit_reply.NotKept written count error) new
  FailsImport old edits import.OutOfMemory new = new ≡ old

-- NotKept: the cause is an error of this store for the first emitted tree that isn't kept, after those before it are
-- kept
abbrev pub HasImportCauseIn : {S E : Type 0} → (S → Objects) → KeepErrors S → S → ImportError E → Type 0
HasImportCauseIn objects errors store (import.NotKept written count error) =
    IsStoreErrorAt objects errors store written.trees.items count error
HasImportCauseIn objects errors store other = ⊤

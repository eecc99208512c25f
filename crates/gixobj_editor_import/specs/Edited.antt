-- The edits of a step, which are done one after the other, and the write after them.
use Rattle.std.specs.Prelude.{◌≡◌, ℕ, List, [], ◌∷◌, Some, slice_get, take}
use Rattle.gixobj_editor_commands.specs.declared.command.Edit.{Edit}
use Rattle.gixobj_editor_commands.specs.declared.command.Edit.TheVariants as edit
use Rattle.gixobj_store.specs.Stores.{StoreModel}
use Rattle.gixobj_editor_write.specs.Calls.{names_of}
use Rattle.gixobj_editor_lookups.specs.declared.error.Error.{Error}
use Rattle.gixobj_streams.specs.declared.encode.Error as encode
use Rattle.gixobj_editor_files.specs.History.{Step, remove, upsert}
use Rattle.gixobj_editor_files.specs.State.{State}
use Rattle.gixobj_hash.specs.declared.hash.kind.Kind as hash
use Rattle.gixobj_editor.specs.Commands.{at_root}
use Rattle.gixobj_editor.specs.Replies.{Answers, IsEditReply}
use Rattle.gixobj_editor.specs.declared.reply.EditReply.{EditReply}
use Rattle.gixobj_editor.specs.declared.reply.EditReply.TheVariants as reply
use Rattle.gixobj_tree_entries.specs.Mode.{mode_of_kind}
use Rattle.gixobj_tree.specs.TreeEncoding.{IsDigestResult}

-- the steps of a history that an edit is; a write is none
abbrev pub steps_if_done : Edit → List Step
steps_if_done (edit.Upsert path kind id) = upsert (names_of path.items) (mode_of_kind kind) id ∷ []
steps_if_done (edit.Remove path) = remove (names_of path.items) ∷ []
steps_if_done (edit.RemoveLeaf path) = remove (names_of path.items) ∷ []
steps_if_done edit.Write = []

-- no call emits a tree
abbrev pub NoAnswers : Answers encode.Error
NoAnswers tree answer = ⊥

module _ {S : Type 0} (model : StoreModel S) where
  -- the edit may get this reply, by the rules of a run
  abbrev pub IsReplied : State S → Edit → EditReply encode.Error → State S → Type 0
  IsReplied = IsEditReply model NoAnswers at_root

  -- a write by digests, whose trees the store then keeps, may get this reply, by the rules of a run
  abbrev pub IsWriteReplied : hash.Kind → State S → EditReply encode.Error → State S → Type 0
  IsWriteReplied hash old its_reply new = IsEditReply model (IsDigestResult hash) at_root old edit.Write its_reply new

  -- the edits are done, one after the other
  abbrev pub AreDone : State S → List Edit → State S → Type 0
  AreDone old [] new = new ≡ old
  AreDone old (it ∷ edits) new =
      (between : State S) × IsReplied old it reply.Done between × AreDone between edits new

  -- the edit of this number fails with this error, after those before it were done
  pub record IsFailedAt (old : State S) (edits : List Edit) (index : ℕ) (error : Error) (new : State S) : Type 0 where
    pub failed_edit : Edit
    pub at : slice_get edits index ≡ Some failed_edit
    pub reached : State S
    pub done : AreDone old (take index edits) reached
    pub cause : IsReplied reached failed_edit (reply.Refused error) new

  -- the edits are done, and the write after them gets this reply
  pub record IsWriteAfter (hash : hash.Kind) (old : State S) (edits : List Edit) (its_reply : EditReply encode.Error)
      (new : State S) : Type 0 where
    pub edited : State S
    pub done : AreDone old edits edited
    pub write : IsWriteReplied hash edited its_reply new

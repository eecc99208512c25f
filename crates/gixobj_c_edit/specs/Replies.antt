-- Replies to the commands of a script, and to the write after them.
use Rattle.std.specs.Prelude.{◌≡◌, ◌++◌, ◌∷◌, ℕ, All, List, [], None, Option, Some, length, ⊤}
use Rattle.std.specs.List.{flat_map}
use Rattle.gixobj_editor_write.specs.declared.write.WriteError.TheVariants as write
use Rattle.gixobj_c_edit.specs.Failures.{edit_failure, encode_failure, given_failure, keep_failure, own_id}
use Rattle.gixobj_c_edit.specs.declared.failure.Failure.{Failure}
use Rattle.gixobj_c_edit.specs.declared.failure.Failure.TheVariants as failure
use Rattle.gixobj_editor.specs.declared.reply.EditReply.{EditReply}
use Rattle.gixobj_editor.specs.declared.reply.EditReply.TheVariants as edit_reply
use Rattle.gixobj_editor.specs.declared.reply.Reply.{Reply}
use Rattle.gixobj_editor.specs.declared.reply.Reply.TheVariants as reply
use Rattle.gixobj_streams.specs.declared.encode.Error.{Error}
use Rattle.gixobj_hash.specs.Hash.{id_bytes}
use Rattle.gixobj_store.specs.Stores.{Objects}
use Rattle.gixobj_hash.specs.declared.hash.object_id.ObjectId.{ObjectId}

-- the failure of an edit or a write by its reply, or none if it is done
abbrev pub edit_reply_failure : EditReply Error → Option Failure
edit_reply_failure edit_reply.Done = None
edit_reply_failure (edit_reply.Refused error) = Some (edit_failure error)
edit_reply_failure (edit_reply.Written written) = None
edit_reply_failure (edit_reply.WriteRefused (write.Out error)) = Some (encode_failure error)
edit_reply_failure (edit_reply.WriteRefused write.OutOfMemory) = Some failure.OutOfMemory
edit_reply_failure (edit_reply.NotKept written count error) = Some (keep_failure error)

-- the first failure, or the one that comes later
abbrev pub or_later : Option Failure → Option Failure → Option Failure
or_later (Some it) later = Some it
or_later None later = later

-- the failure of the first edit that failed, or none if all are done
abbrev pub edits_failure : List (EditReply Error) → Option Failure
edits_failure [] = None
edits_failure (its_reply ∷ replies) = or_later (edit_reply_failure its_reply) (edits_failure replies)

-- the failure of a command by its reply, or none if it is done
abbrev pub reply_failure : Reply Error → Option Failure
reply_failure (reply.Edit its_reply) = edit_reply_failure its_reply
reply_failure (reply.At replies) = edits_failure replies.items
reply_failure (reply.AtRefused error) = Some (edit_failure error)
reply_failure reply.RootSet = None
reply_failure reply.RootRefused = Some failure.MalformedTree

-- the id of a missing tree, by a failure
abbrev pub id_of_missing : Failure → List ℕ
id_of_missing (failure.NotFound id) = id_bytes id
id_of_missing it = []

-- the id of the tree that a command lacks, by its failure; a lossy tree isn't missing
abbrev pub missing_of : Objects → Option Failure → List ℕ
missing_of lossy None = []
missing_of lossy (Some it) = id_of_missing (given_failure lossy it)

-- the id of the tree that a command lacks, by its reply
abbrev pub missing_id : Objects → Reply Error → List ℕ
missing_id lossy it = missing_of lossy (reply_failure it)

-- the ids of the trees that commands lack, one after another, in the order of the commands. A command that fails leaves
-- the editor's files as they are, and those after it are run
abbrev pub missing_ids : Objects → List (Reply Error) → List ℕ
missing_ids lossy replies = flat_map (missing_id lossy) replies

-- the ids of a failure: all missing trees, or a lossy one
abbrev pub failure_ids : Objects → List (Reply Error) → Failure → List ℕ
failure_ids lossy replies (failure.NotFound id) = missing_ids lossy replies
failure_ids lossy replies it = own_id it

-- all commands are done
abbrev pub AreDone : List (Reply Error) → Type 0
AreDone replies = All (λ it. reply_failure it ≡ None) replies

-- the command with this index, from 0, is the first that failed, with this failure
pub record IsFirstFailure (replies : List (Reply Error)) (index : ℕ) (it : Failure) : Type 0 where
  pub before : List (Reply Error)
  pub failed : Reply Error
  pub rest : List (Reply Error)
  pub joined : replies ≡ before ++ failed ∷ rest
  pub counted : length before ≡ index
  pub done : AreDone before
  pub cause : reply_failure failed ≡ Some it

-- the id that a write of the root returned, by its reply
abbrev pub written_id : Reply Error → Option ObjectId
written_id (reply.Edit (edit_reply.Written written)) = Some written.id
written_id _ = None

-- the reply is one to a write of the root
abbrev pub IsReplyToWrite : Reply Error → Type 0
IsReplyToWrite (reply.Edit (edit_reply.Written written)) = ⊤
IsReplyToWrite (reply.Edit (edit_reply.WriteRefused error)) = ⊤
IsReplyToWrite (reply.Edit (edit_reply.NotKept written count error)) = ⊤
IsReplyToWrite _ = ⊥

-- the last reply is one to a write of the root
abbrev pub EndsInWrite : List (Reply Error) → Type 0
EndsInWrite replies = (before : List (Reply Error)) × (last : Reply Error) × (replies ≡ before ++ last ∷ [])
    × IsReplyToWrite last

-- Runs and lists of edits that are longer by one.
use Rattle.std.proofs.Common.{◌≡◌, ◌∷◌, [], ◌++◌, List, append_assoc, append-nil, arith, refl, length}
use Rattle.gixobj_editor_commands.specs.declared.command.Command.{Command}
use Rattle.gixobj_editor_commands.specs.declared.command.Edit.{Edit}
use Rattle.gixobj_editor_files.specs.State.{State}
use Rattle.gixobj_editor.specs.Commands.{Location}
use Rattle.gixobj_editor.specs.Replies.{Answers, AreEditReplies, IsEditReply, IsReply, IsRun}
use Rattle.gixobj_editor.specs.declared.reply.EditReply.{EditReply}
use Rattle.gixobj_editor.specs.declared.reply.Reply.{Reply}
use Rattle.gixobj_store.specs.Stores.{StoreModel}

pub nil_of_len_zero : {X : Type 0} (xs : List X) → length xs ≡ 0 → xs ≡ []
nil_of_len_zero [] e = refl
nil_of_len_zero (x ∷ xs) e = absurd (omega arith)

module _ {S E : Type 0} (model : StoreModel S) (answers : Answers E) where
  -- if each completion of the rest completes all commands, then so does each completion after one more command
  pub one_more : (old between first new : State S) (command : Command) (all rest commands : List Command) (reply : Reply E)
      (seen seen' replies : List (Reply E)) → IsReply model answers old command reply between
      → rest ≡ command ∷ commands → seen' ≡ seen ++ reply ∷ []
      → ((rs : List (Reply E)) (s : State S) → IsRun model answers old rest rs s → IsRun model answers first all (seen ++ rs) s)
      → IsRun model answers between commands replies new → IsRun model answers first all (seen' ++ replies) new
  one_more old between first new command all rest commands reply seen seen' replies one is pushed entire later =
      rw (pushed, append_assoc) (entire (reply ∷ replies) new (rw is (between, one, later)))

  pub no_more : (old first : State S) (all rest : List Command) (seen : List (Reply E)) → length rest ≡ 0
      → ((rs : List (Reply E)) (s : State S) → IsRun model answers old rest rs s → IsRun model answers first all (seen ++ rs) s)
      → IsRun model answers first all seen old
  no_more old first all rest seen none entire = rw append-nil at (entire [] old (rw (nil_of_len_zero rest none) refl))

  pub one_more_edit : (location : Location) (old between first new : State S) (edit : Edit) (all rest edits : List Edit) (reply : EditReply E)
      (seen seen' replies : List (EditReply E))
      → IsEditReply model answers location old edit reply between → rest ≡ edit ∷ edits → seen' ≡ seen ++ reply ∷ []
      → ((rs : List (EditReply E)) (s : State S) → AreEditReplies model answers location old rest rs s → AreEditReplies model answers location first all
      (seen ++ rs) s)
      → AreEditReplies model answers location between edits replies new → AreEditReplies model answers location first all (seen' ++ replies) new
  one_more_edit location old between first new edit all rest edits reply seen seen' replies one is pushed entire later =
      rw (pushed, append_assoc) (entire (reply ∷ replies) new (rw is (between, one, later)))

  pub no_more_edits : (location : Location) (old first : State S) (all rest : List Edit) (seen : List (EditReply E)) → length rest ≡ 0
      → ((rs : List (EditReply E)) (s : State S) → AreEditReplies model answers location old rest rs s → AreEditReplies model answers location first all
      (seen ++ rs) s)
      → AreEditReplies model answers location first all seen old
  no_more_edits location old first all rest seen none entire = rw append-nil at (entire [] old (rw (nil_of_len_zero rest none) refl))

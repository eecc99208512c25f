-- Causes in replies, and in lists of replies that are longer by one; the proofs of `do_write`, `do_write_by`, `do_edit`,
-- `do_edit_by`, `do_edits`, `do_edits_in` and `run` use it.
use Rattle.std.proofs.Common.{◌≡◌, ◌∷◌, [], ◌++◌, ℕ, Err, List, Ok, Result, append_assoc, append-nil, length, refl, subst, sym}
use Rattle.std.specs.declared.alloc.Global.{Global}
use Rattle.std.specs.declared.vec.Vec.{Vec}
use Rattle.gixobj_editor_lookups.specs.Openings.{OfTrees}
use Rattle.gixobj_editor.specs.Causes.{HasCausesAt, HasKeepCause, HasReplyCauses, HaveEditCauses, HaveRunCauses}
use Rattle.gixobj_editor.specs.Commands.{Location, at_cursor}
use Rattle.gixobj_editor.specs.Cursors.{IsEnsured}
use Rattle.gixobj_editor.specs.Replies.{Answers, IsEditReply, IsReply, reply_to}
use Rattle.gixobj_editor_commands.specs.declared.command.Command.{Command}
use Rattle.gixobj_editor_commands.specs.declared.command.Edit.{Edit}
use Rattle.gixobj_editor_lookups.specs.declared.error.Error.{Error}
use Rattle.gixobj_editor.specs.declared.reply.EditReply.{EditReply}
use Rattle.gixobj_editor.specs.declared.reply.Reply.{Reply}
use Rattle.gixobj_editor.specs.declared.reply.Reply.TheVariants as reply
use Rattle.gixobj_editor.proofs.LongerRuns.{nil_of_len_zero}
use Rattle.gixobj_editor_files.specs.Files.{Path}
use Rattle.gixobj_editor_files.specs.State.{State}
use Rattle.gixobj_store_keep.specs.Keeping.{IsStoreErrorAt, KeepErrors}
use Rattle.gixobj_store_keep.specs.declared.keeping.KeepError.{KeepError}
use Rattle.gixobj_store.specs.Stores.{Objects, StoreModel}
use Rattle.gixobj_tree_entries.specs.Entries.{Pair}

-- the cause of a write whose borrowed trees aren't all kept, in the store that was borrowed
pub cause_of_borrowed_trees : {S : Type 0} (objects : S → Objects) (errors : KeepErrors S) (old start : S) (trees lent : List Pair) (count : ℕ)
    (error : KeepError) → lent ≡ trees → start ≡ old → IsStoreErrorAt objects errors start lent count error
    → IsStoreErrorAt objects errors old trees count error
cause_of_borrowed_trees {S} objects errors old start trees lent count error all same cause =
    subst (λ (s : S). IsStoreErrorAt objects errors s trees count error) same
    (subst (λ (pairs : List Pair). IsStoreErrorAt objects errors start pairs count error) all cause)

-- the reply to an edit has no cause of a store
pub reply_to_has_keep_cause : {S E : Type 0} (objects : S → Objects) (errors : KeepErrors S) (store : S) (done : Result (Unit {0}) Error)
    (its_reply : EditReply E) → its_reply ≡ reply_to done → HasKeepCause objects errors store its_reply
reply_to_has_keep_cause objects errors store (Ok it) its_reply is = rw is tt
reply_to_has_keep_cause objects errors store (Err error) its_reply is = rw is tt

module _ {S E : Type 0} (model : StoreModel S) (errors : KeepErrors S) (answers : Answers E) where
  -- if each completion of the rest completes all commands with its causes, then so does each completion after one more
  -- command
  pub one_more_cause : (old between first new : State S) (command : Command) (all rest commands : List Command) (its_reply : Reply E)
      (seen seen' replies : List (Reply E)) → IsReply model answers old command its_reply between
      → HasReplyCauses model errors answers old command its_reply between
      → rest ≡ command ∷ commands → seen' ≡ seen ++ its_reply ∷ []
      → ((rs : List (Reply E)) (s : State S) → HaveRunCauses model errors answers old rest rs s
      → HaveRunCauses model errors answers first all (seen ++ rs) s)
      → HaveRunCauses model errors answers between commands replies new → HaveRunCauses model errors answers first all (seen' ++ replies) new
  one_more_cause old between first new command all rest commands its_reply seen seen' replies one cause is pushed entire later =
      rw (pushed, append_assoc) (entire (its_reply ∷ replies) new (rw is (between, one, cause, later)))

  pub no_more_causes : (old first : State S) (all rest : List Command) (seen : List (Reply E)) → length rest ≡ 0
      → ((rs : List (Reply E)) (s : State S) → HaveRunCauses model errors answers old rest rs s
      → HaveRunCauses model errors answers first all (seen ++ rs) s)
      → HaveRunCauses model errors answers first all seen old
  no_more_causes old first all rest seen none entire = rw append-nil at (entire [] old (rw (nil_of_len_zero rest none) refl))

  pub one_more_edit_cause : (location : Location) (old between first new : State S) (edit : Edit) (all rest edits : List Edit) (its_reply : EditReply E)
      (seen seen' replies : List (EditReply E)) → IsEditReply model answers location old edit its_reply between
      → HasKeepCause model.objects errors old.store its_reply
      → rest ≡ edit ∷ edits → seen' ≡ seen ++ its_reply ∷ []
      → ((rs : List (EditReply E)) (s : State S) → HaveEditCauses model errors answers location old rest rs s
      → HaveEditCauses model errors answers location first all (seen ++ rs) s)
      → HaveEditCauses model errors answers location between edits replies new
      → HaveEditCauses model errors answers location first all (seen' ++ replies) new
  one_more_edit_cause location old between first new edit all rest edits its_reply seen seen' replies one cause is pushed entire later =
      rw (pushed, append_assoc) (entire (its_reply ∷ replies) new (rw is (between, one, cause, later)))

  pub no_more_edit_causes : (location : Location) (old first : State S) (all rest : List Edit) (seen : List (EditReply E)) → length rest ≡ 0
      → ((rs : List (EditReply E)) (s : State S) → HaveEditCauses model errors answers location old rest rs s
      → HaveEditCauses model errors answers location first all (seen ++ rs) s)
      → HaveEditCauses model errors answers location first all seen old
  no_more_edit_causes location old first all rest seen none entire = rw append-nil at (entire [] old (rw (nil_of_len_zero rest none) refl))

  -- the causes in replies to edits by a cursor, as the editor outside sees them
  pub causes_at : (prefix at : Path) (old lent pending new : State S) (edits : List Edit) (replies : Vec (EditReply E) Global) → at ≡ prefix
      → OfTrees (model.objects old.store) (λ trees. IsEnsured trees old prefix lent)
      → HaveEditCauses model errors answers (at_cursor at) lent edits replies.items pending → new ≡ pending
      → HasCausesAt model errors answers prefix old edits (reply.At replies) new
  causes_at prefix at old lent pending new edits replies is ensured done outside = (
    lent,
    ensured,
    subst (λ (s : State S). HaveEditCauses model errors answers (at_cursor prefix) lent edits replies.items s) (sym outside)
        (subst (λ (p : Path). HaveEditCauses model errors answers (at_cursor p) lent edits replies.items pending) is done),
  )

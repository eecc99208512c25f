-- The cause in the reply that decides an import is an error of the store at its start, since accepted edits leave the
-- store unchanged; the proof of `deciding_reply` uses it.
use Rattle.std.proofs.Common.{◌≡◌, ◌∙◌, ◌<◌, ℕ, zero, suc, List, [], ◌∷◌, Some, arith, get_or, length, subst, sym}
use Rattle.std.specs.Prelude.{Contains, position}
use Rattle.std.specs.List.{position_or_len}
use Rattle.gix_object.specs.Causes.{HasKeepCause, HaveRunCauses}
use Rattle.gix_object.specs.Files.{Trees}
use Rattle.gix_object.specs.Keeping.{KeepErrors}
use Rattle.gix_object.specs.Openings.{AreTreesOf}
use Rattle.gix_object.specs.Replies.{Answers, IsRun}
use Rattle.gix_object.specs.State.{State}
use Rattle.gix_object.specs.Stores.{Objects, StoreModel}
use Rattle.gix_object.specs.commands.command.Command.{Command}
use Rattle.gix_object.specs.commands.command.Edit.{Edit}
use Rattle.gix_object.specs.commands.command.Edit.TheVariants as edit
use Rattle.gix_object.specs.editor.reply.EditReply.{EditReply}
use Rattle.gix_object.specs.editor.reply.EditReply.TheVariants as edit_reply
use Rattle.gix_object.specs.editor.reply.Reply.{Reply}
use Rattle.gix_object.specs.editor.reply.Reply.TheVariants as reply
use Rattle.gixobj_examples_edits.specs.Imports.{edits_and_write}
use Rattle.gixobj_examples_edits.proofs.Imported.{edit_stays}
use Rattle.gixobj_examples_edits.proofs.Importing.{decided, is_other, position_or_len_eq_position}

-- by the law that every store names trees
module _ {S E : Type 0} (model : StoreModel S) (errors : KeepErrors S) (answers : Answers E)
    (trees_of : (objects : Objects) → (trees : Trees) × AreTreesOf objects trees) where
  cause_at : (old new : State S) (edits : List Edit) (replies : List (Reply E)) (k : ℕ) (r : EditReply E)
      → HaveRunCauses model errors answers old (edits_and_write edits) replies new → position_or_len is_other replies ≡ k → k < length replies
      → get_or replies k (reply.Edit r) ≡ reply.Edit r → HasKeepCause model.objects errors old.store r
  cause_at old new edits [] k r run first low is = absurd (omega (arith, low))
  cause_at old new [] (reply.Edit x ∷ replies) zero r (between, one, cause, run) first low is =
      subst (λ (it : EditReply E). HasKeepCause model.objects errors old.store it) (cc is) cause
  cause_at old new [] (reply.Edit x ∷ []) (suc k) r run first low is = absurd (omega (arith, low))
  cause_at old new [] (reply.Edit x ∷ y ∷ replies) (suc k) r (between, one, cause, run) first low is = absurd run
  cause_at old new (it ∷ edits) (reply.Edit x ∷ replies) zero r (between, one, cause, run) first low is =
      subst (λ (it : EditReply E). HasKeepCause model.objects errors old.store it) (cc is) cause
  cause_at old new (it ∷ edits) (reply.Edit edit_reply.Done ∷ replies) (suc k) r (between, one, cause, run) first low is =
      subst (λ (s : S). HasKeepCause model.objects errors s r) (edit_stays model answers trees_of old between it one)
      (cause_at between new edits replies k r run (omega (arith, first)) (omega (arith, low)) is)
  cause_at old new (it ∷ edits) (reply.Edit (edit_reply.Refused error) ∷ replies) (suc k) r run first low is = absurd (omega (arith, first))
  cause_at old new (it ∷ edits) (reply.Edit (edit_reply.Written written) ∷ replies) (suc k) r run first low is = absurd (omega (arith, first))
  cause_at old new (it ∷ edits) (reply.Edit (edit_reply.WriteRefused error) ∷ replies) (suc k) r run first low is = absurd (omega (arith, first))
  cause_at old new (it ∷ edits) (reply.Edit (edit_reply.NotKept written count error) ∷ replies) (suc k) r run first low is =
      absurd (omega (arith, first))
  cause_at old new edits (its_reply ∷ replies) k r run first low is = absurd run.1

  -- the cause in the reply at the found position
  pub cause_of_decided : (old new : State S) (edits : List Edit) (commands : List Command) (replies shown : List (Reply E)) (index : ℕ)
      (r : EditReply E) → (Contains edits edit.Write → ⊥) → commands ≡ edits_and_write edits → IsRun model answers old commands replies new
      → HaveRunCauses model errors answers old commands replies new → shown ≡ replies → Some index ≡ position is_other shown
      → reply.Edit r ≡ get_or replies index (reply.Edit r) → HasKeepCause model.objects errors old.store r
  cause_of_decided old new edits commands replies shown index r none is run causes same found at =
      let it = decided model answers old new edits replies (reply.Edit r) none
      (subst (λ (cs : List Command). IsRun model answers old cs replies new) is run) in
      let split : it.0 ≡ index = position_or_len_eq_position replies shown index it.0 same found it.1 it.2 in
      cause_at old new edits replies index r (subst (λ (cs : List Command). HaveRunCauses model errors answers old cs replies new) is causes)
      (it.1 ∙ split) (subst (λ (k : ℕ). k < length replies) split it.2) (sym at)

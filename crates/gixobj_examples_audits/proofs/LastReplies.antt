-- A run with a last command is a run of the others and a step of that command, which gets the last reply; the proofs of
-- `run_and_write` and `RunChanged` use it.
use Rattle.std.proofs.Common.{◌≡◌, ◌<◌, ◌↔◌, ◌∙◌, ℕ, suc, List, [], ◌∷◌, ◌++◌, None, Option, Some, ap, arith, length, refl, subst, sym, take}
use Rattle.std.proofs.lemmas.Bool.{false≢true}
use Rattle.std.specs.Prelude.{IsSome}
use Rattle.gix_object.specs.Commands.{accepted_steps, written_at, written_by}
use Rattle.gix_object.specs.Replies.{Answers, IsReply, IsRun}
use Rattle.gix_object.specs.State.{State}
use Rattle.gix_object.specs.Stores.{StoreModel}
use Rattle.gix_object.specs.commands.command.Command.{Command}
use Rattle.gix_object.specs.commands.command.Command.TheVariants as command
use Rattle.gix_object.specs.commands.command.Edit.TheVariants as edit
use Rattle.gix_object.specs.directories.error.Error.{Error}
use Rattle.gix_object.specs.editor.reply.EditReply.{EditReply}
use Rattle.gix_object.specs.editor.reply.EditReply.TheVariants as edit_reply
use Rattle.gix_object.specs.editor.reply.Reply.{Reply}
use Rattle.gix_object.specs.editor.reply.Reply.TheVariants as reply
use Rattle.gixobj_examples_audits.specs.Runs.{and_reply, and_write}

pub written_at_last : {E : Type 0} (replies : List (Reply E)) (last : Reply E) → written_at (replies ++ last ∷ []) (length replies) ≡ written_by last
written_at_last [] last = refl
written_at_last (r ∷ replies) last = written_at_last replies last

take_length_append : {A : Type 0} (xs ys : List A) → take (length xs) (xs ++ ys) ≡ xs
take_length_append [] ys = refl
take_length_append {A} (x ∷ xs) ys = ap (λ (l : List A). x ∷ l) (take_length_append xs ys)

module _ {S E : Type 0} (model : StoreModel S) (answers : Answers E) where
  -- a run that ends with one command is the run of the others, and then that command
  pub record IsRunThen (old : State S) (commands : List Command) (last : Command) (replies : List (Reply E)) (its_reply : Reply E)
      (new : State S) : Type 0 where
    pub between : State S
    pub run : IsRun model answers old commands replies between
    pub reply : IsReply model answers between last its_reply new

  pub run_snoc : (old new : State S) (commands : List Command) (last : Command) (replies : List (Reply E)) (its_reply : Reply E)
      → IsRun model answers old (commands ++ last ∷ []) (replies ++ its_reply ∷ []) new → IsRunThen old commands last replies its_reply new
  run_snoc old new [] last [] its_reply (between, first, rest) =
      record { between = old; run = refl; reply = subst (λ (s : State S). IsReply model answers old last its_reply s) (sym rest) first }
  run_snoc old new [] last (r ∷ []) its_reply (between, first, rest) = absurd rest
  run_snoc old new [] last (r ∷ s ∷ replies) its_reply (between, first, rest) = absurd rest
  run_snoc old new (it ∷ []) last [] its_reply (between, first, rest) = absurd rest
  run_snoc old new (it ∷ other ∷ commands) last [] its_reply (between, first, rest) = absurd rest
  run_snoc old new (it ∷ commands) last (r ∷ replies) its_reply (between, first, rest) =
      let later = run_snoc between new commands last replies its_reply rest in
      record { between = later.between; run = (between, first, later.run); reply = later.reply }

  -- a run that ends with a command has a reply
  pub run_not_nil : (old new : State S) (commands : List Command) (last : Command) → IsRun {S = S} {E = E} model answers old (commands ++ last ∷ []) [] new → ⊥
  run_not_nil old new [] last run = run
  run_not_nil old new (it ∷ commands) last run = run

  -- each command has one reply
  run_lengths : (old new : State S) (commands : List Command) (replies : List (Reply E)) → IsRun model answers old commands replies new
      → length replies ≡ length commands
  run_lengths old new [] [] run = refl
  run_lengths old new (it ∷ commands) (r ∷ replies) (between, first, rest) = ap suc (run_lengths between new commands replies rest)
  run_lengths old new [] (r ∷ replies) run = absurd run
  run_lengths old new (it ∷ commands) [] run = absurd run

  -- the steps before the last command
  pub steps_before_last : (old new : State S) (commands : List Command) (last : Command) (replies : List (Reply E)) (its_reply : Reply E)
      → IsRun model answers old commands replies new
      → accepted_steps (take (length replies) (commands ++ last ∷ [])) (take (length replies) (replies ++ its_reply ∷ [])) ≡ accepted_steps commands replies
  steps_before_last old new commands last replies its_reply run =
      ap (λ (k : ℕ). accepted_steps (take k (commands ++ last ∷ [])) (take (length replies) (replies ++ its_reply ∷ [])))
      (run_lengths old new commands replies run)
      ∙ ap (λ (cs : List Command). accepted_steps cs (take (length replies) (replies ++ its_reply ∷ []))) (take_length_append commands (last ∷ []))
      ∙ ap (λ (rs : List (Reply E)). accepted_steps commands rs) (take_length_append replies (its_reply ∷ []))

module _ {S E : Type 0} (model : StoreModel S) (answers : Answers E) (start remaining : State S) (commands : List Command) where
  -- a run that ends with a write has a last reply
  pub last_exists : (all rest : List (Reply E)) (popped : Option (Reply E)) (count : ℕ) → count ≡ length all → IsSome popped ↔ (0 < count)
      → IsRun model answers start (and_write commands) all remaining → ((r : Reply E) → popped ≡ Some r → ⊥) → ⊥
  last_exists all rest (Some last) count counted some run other = other last refl
  last_exists [] rest None count counted some run other = run_not_nil model answers start remaining commands (command.Edit edit.Write) run
  last_exists (r ∷ all) rest None count counted some run other = false≢true (some.1 (omega (arith, counted)))

  -- the last reply of a run that ends with a write is one to an edit
  pub last_is_edit : (rest : List (Reply E)) (last : Reply E) → IsRun model answers start (and_write commands) (rest ++ last ∷ []) remaining
      → ((x : EditReply E) → last ≡ reply.Edit x → ⊥) → ⊥
  last_is_edit rest last run other =
      let at = run_snoc model answers start remaining commands (command.Edit edit.Write) rest last run in by_reply at.between last at.reply other
    where
      by_reply : (old : State S) (r : Reply E) → IsReply model answers old (command.Edit edit.Write) r remaining
          → ((x : EditReply E) → r ≡ reply.Edit x → ⊥) → ⊥
      by_reply old (reply.Edit x) is other = other x refl
      by_reply old r is other = is

  -- a write isn't answered as an edit is
  pub write_not_done : (rest : List (Reply E)) (its_reply : EditReply E)
      → IsRun model answers start (and_write commands) (and_reply rest its_reply) remaining → its_reply ≡ edit_reply.Done → ⊥
  write_not_done rest its_reply run is =
      (run_snoc model answers start remaining commands (command.Edit edit.Write) rest (reply.Edit edit_reply.Done)
      (subst (λ (r : EditReply E). IsRun model answers start (and_write commands) (and_reply rest r) remaining) is run)).reply

  pub write_not_rejected : (rest : List (Reply E)) (its_reply : EditReply E) (error : Error)
      → IsRun model answers start (and_write commands) (and_reply rest its_reply) remaining → its_reply ≡ edit_reply.Refused error → ⊥
  write_not_rejected rest its_reply error run is =
      (run_snoc model answers start remaining commands (command.Edit edit.Write) rest (reply.Edit (edit_reply.Refused error))
      (subst (λ (r : EditReply E). IsRun model answers start (and_write commands) (and_reply rest r) remaining) is run)).reply

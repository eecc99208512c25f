use Rattle.std.proofs.Common.{inl, inr, refl, ◌≢◌}
use Rattle.std.proofs.lemmas.List.Elements.{All-contains}
use Rattle.gixobj_fsck.specs.Commits.{IsCommitMessage}
use Rattle.gixobj_fsck_messages.specs.declared.message.Message.TheVariants as message
use Rattle.gixobj_fsck.proofs.CommitMessages.{only_fault, only_zero}
use Rattle.gixobj_fsck.proofs.MessageSets.{no_messages, one_message}
use Rattle.gixobj_fsck.proofs.commits.commit_messages.Goals as goal

pub returns-in-Err : goal.returns-in-Err
returns-in-Err c = one_message c.new-messages.result c.insert.new.self c.in-Err.fault (IsCommitMessage c.args.kind c.args.commit.now)
    c.new-messages.ensures c.insert.ensures (inl c.in-Err.ensures) (only_fault c.args.kind c.args.commit.now c.in-Err.fault c.in-Err.ensures)

pub returns-then-has_zero : goal.returns-then-has_zero
returns-then-has_zero c = one_message c.new-messages.result c.insert-then-has_zero.new.self message.NulInCommit
    (IsCommitMessage c.args.kind c.args.commit.now) c.new-messages.ensures c.insert-then-has_zero.ensures
    (inr (c.in-Ok.field-0.now, c.in-Ok.ensures, c.if-has_zero.ensures, refl))
    (λ it is. (only_zero c.args.kind c.args.commit.now c.in-Ok.field-0.now c.in-Ok.ensures it is).1)

pub returns-else-has_zero : goal.returns-else-has_zero
returns-else-has_zero c = no_messages c.new-messages.result (IsCommitMessage c.args.kind c.args.commit.now) c.new-messages.ensures
    (λ it is. All-contains (λ byte. byte ≢ 0) c.args.commit.now 0 c.if-has_zero.ensures
    (only_zero c.args.kind c.args.commit.now c.in-Ok.field-0.now c.in-Ok.ensures it is).0 refl)

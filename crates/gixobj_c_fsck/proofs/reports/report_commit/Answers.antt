-- Git accepts a commit without an error.
use Rattle.std.specs.Prelude.{not}
use Rattle.gixobj_c_fsck.proofs.Verdicts.{report_of_messages}
use Rattle.gixobj_c_fsck.proofs.reports.report_commit.Goals as goal
use Rattle.gixobj_fsck.proofs.MessageSets.{no_error_iff}
use Rattle.gixobj_fsck.specs.Commits.{IsCommitMessage}
use Rattle.gixobj_hash.specs.declared.kind.Kind.TheVariants as kind

pub returns : goal.returns
returns c =
    let messages = c.commit_messages-messages.result in
    report_of_messages c.args.strict c.args.hash kind.Commit c.args.bytes.now messages (not c.has_error.result) c.report_messages.result
    c.commit_messages-messages.ensures
    (no_error_iff c.has_error.result c.args.strict messages (IsCommitMessage c.args.hash c.args.bytes.now) c.commit_messages-messages.ensures
    c.has_error.ensures)
    c.report_messages.ensures

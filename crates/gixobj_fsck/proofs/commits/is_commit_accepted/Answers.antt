use Rattle.gixobj_fsck.specs.Commits.{IsCommitMessage}
use Rattle.gixobj_fsck.proofs.MessageSets.{no_error_iff}
use Rattle.gixobj_fsck.proofs.commits.is_commit_accepted.Goals as goal

pub returns : goal.returns
returns c = no_error_iff c.has_error.result c.args.strict c.commit_messages.result (IsCommitMessage c.args.kind c.args.commit.now)
    c.commit_messages.ensures c.has_error.ensures

-- Git accepts a tree without an error.
use Rattle.std.specs.Prelude.{not}
use Rattle.gixobj_c_fsck.proofs.Verdicts.{not_error_iff, report_of_messages}
use Rattle.gixobj_c_fsck.proofs.reports.report_tree.Goals as goal
use Rattle.gixobj_hash.specs.declared.kind.Kind.TheVariants as kind

pub returns-clause-found : goal.returns-clause-found
returns-clause-found c =
    let messages = c.in_ok-messages.messages in
    report_of_messages c.args.strict c.args.hash kind.Tree c.args.bytes.now messages (not c.has_error.result) c.report_messages.result
    c.in_ok-messages.ensures.found (not_error_iff c.has_error.result c.args.strict messages c.has_error.ensures) c.report_messages.ensures

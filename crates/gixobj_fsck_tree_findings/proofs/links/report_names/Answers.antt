use Rattle.std.proofs.Common.{◌<◌, length, rules}
use Rattle.gixobj_fsck_messages.specs.declared.message.Message.TheVariants as message
use Rattle.gixobj_fsck_trees.specs.RawViews.{raw_entry_view}
use Rattle.gixobj_fsck_tree_findings.specs.TreeFindings.{IsLinkOffset}
use Rattle.gixobj_fsck_tree_findings.proofs.Appends.{appends_message}
use Rattle.gixobj_fsck_tree_findings.proofs.links.report_names.Goals as goal

pub loop-message-preserved : goal.loop-message-preserved
loop-message-preserved c =
    let within : c.loop-message.message-index < length c.args.order.now = search rules in
    appends_message c.args.options.now (IsLinkOffset (raw_entry_view c.args.entry.now)) c.args.order.now c.loop-message.message-index
    message.GitmodulesSymlink c.link_offset.result c.args.findings.now.items c.loop-message.findings.items c.report_found.new.findings.items
    within c.loop-message.invariant c.link_offset.ensures c.in_ok-report_found.ensures.found

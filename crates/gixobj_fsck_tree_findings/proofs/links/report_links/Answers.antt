use Rattle.std.proofs.Common.{◌<◌, length, rules}
use Rattle.gixobj_fsck_tree_findings.proofs.Appends.{appends_entry}
use Rattle.gixobj_fsck_tree_findings.proofs.links.report_links.Goals as goal

pub loop-entry-preserved : goal.loop-entry-preserved
loop-entry-preserved c =
    let within : c.loop-entry.entry-index < length c.args.entries.now = search rules in
    appends_entry c.args.options.now c.args.entries.now c.loop-entry.entry-index c.args.findings.now.items c.loop-entry.findings.items
    c.report_entry.new.findings.items within c.loop-entry.invariant c.in_ok-report_entry.ensures

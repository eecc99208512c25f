use Rattle.gixobj_fsck_trees.specs.RawViews.{raw_entry_view}
use Rattle.gixobj_fsck_tree_findings.proofs.Appends.{appends_link, on_ok}
use Rattle.gixobj_fsck_tree_findings.proofs.links.report_link.Goals as goal

pub returns : goal.returns
returns c =
    on_ok c.report_backslashes.result _ _
    (appends_link c.args.options.now (raw_entry_view c.args.entry.now) c.count_git_modules_after_backslashes-count.result c.args.findings.now.items
    c.report_names.new.findings.items c.report_backslashes.new.findings.items c.in_ok-report_names.ensures
    c.count_git_modules_after_backslashes-count.ensures) c.report_backslashes.ensures

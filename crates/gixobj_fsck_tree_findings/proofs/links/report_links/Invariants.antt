use Rattle.std.proofs.Common.{take}
use Rattle.gixobj_fsck_trees.specs.RawViews.{raw_entry_views}
use Rattle.gixobj_fsck_tree_findings.specs.Findings.{AppendsFindings}
use Rattle.gixobj_fsck_tree_findings.specs.TreeFindings.{AreFindingsOfLinks}
use Rattle.gixobj_fsck_tree_findings.proofs.links.report_links.Given as goal

-- the findings about the entries so far were appended
abbrev pub invariant-loop-entry : goal.invariant-loop-entry
invariant-loop-entry l = AppendsFindings l.options (AreFindingsOfLinks (raw_entry_views (take l.entry-index l.entries)))
    l.fn.findings.items l.findings.items

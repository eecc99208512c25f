use Rattle.std.proofs.Common.{take}
use Rattle.gixobj_fsck_trees.specs.RawViews.{raw_entry_view}
use Rattle.gixobj_fsck_tree_findings.specs.Findings.{AppendsFindings, ListsInOrder}
use Rattle.gixobj_fsck_tree_findings.specs.TreeFindings.{IsLinkOffset}
use Rattle.gixobj_fsck_tree_findings.proofs.links.report_names.Given as goal

-- the findings of the messages so far were appended
abbrev pub invariant-loop-message : goal.invariant-loop-message
invariant-loop-message l = AppendsFindings l.options (ListsInOrder (IsLinkOffset (raw_entry_view l.entry)) (take l.message-index l.order))
    l.fn.findings.items l.findings.items

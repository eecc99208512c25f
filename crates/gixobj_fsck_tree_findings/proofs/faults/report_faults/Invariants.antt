use Rattle.std.proofs.Common.{take}
use Rattle.gixobj_fsck_messages.specs.Options.{is_strict_by}
use Rattle.gixobj_fsck_trees.specs.RawEntries.{ending_of}
use Rattle.gixobj_fsck_trees.specs.RawViews.{raw_entry_views}
use Rattle.gixobj_fsck_tree_findings.specs.Findings.{AppendsFindings, ListsInOrder}
use Rattle.gixobj_fsck_tree_findings.specs.TreeFindings.{IsFaultOffset}
use Rattle.gixobj_fsck_tree_findings.proofs.faults.report_faults.Given as goal

-- the findings of the messages so far were appended
abbrev pub invariant-loop-message : goal.invariant-loop-message
invariant-loop-message l =
    AppendsFindings l.options (ListsInOrder (IsFaultOffset (is_strict_by l.options) (raw_entry_views l.tree.entries.items)
    (ending_of l.tree.is_broken)) (take l.message-index l.order)) l.fn.findings.items l.findings.items

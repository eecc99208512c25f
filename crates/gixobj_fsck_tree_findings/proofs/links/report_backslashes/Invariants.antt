use Rattle.std.proofs.Common.{◌≡◌, ◌++◌, replicate}
use Rattle.gixobj_fsck_messages.specs.declared.message.Message.TheVariants as message
use Rattle.gixobj_fsck_tree_findings.specs.Findings.{finding_at, reported}
use Rattle.gixobj_fsck_tree_findings.proofs.links.report_backslashes.Given as goal

-- the finding was appended once for each index before this one
abbrev pub invariant-loop-index : goal.invariant-loop-index
invariant-loop-index l = l.findings.items ≡ l.fn.findings.items
    ++ reported l.options (replicate l._index (finding_at message.GitmodulesSymlink l.offset))

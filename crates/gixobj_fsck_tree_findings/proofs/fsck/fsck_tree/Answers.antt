use Rattle.std.proofs.Common.{◌<◌, inl, length, rules}
use Rattle.gixobj_fsck_trees.proofs.TreeReads.{on_err}
use Rattle.gixobj_fsck_trees.specs.RawEntries.{ending_of}
use Rattle.gixobj_fsck_tree_findings.proofs.FaultOffsets.{allocates}
use Rattle.gixobj_fsck_tree_findings.proofs.fsck.fsck_tree.Goals as goal

pub returns-in_err-report_links-clause-error : goal.returns-in_err-report_links-clause-error
returns-in_err-report_links-clause-error c =
    let some : 0 < length c.in_ok-tree.tree.entries.items = search rules in
    on_err c.from_residual-in_err-report_links.result _
    (allocates c.args.hash_kind c.args.options.now c.args.bytes.now c.in_ok-tree.tree.entries.items (ending_of c.in_ok-tree.tree.is_broken)
    c.in_ok-tree.ensures.found (inl some))

pub returns-in_err-report_faults-clause-error : goal.returns-in_err-report_faults-clause-error
returns-in_err-report_faults-clause-error c =
    on_err c.from_residual-in_err-report_faults.result _
    (allocates c.args.hash_kind c.args.options.now c.args.bytes.now c.in_ok-tree.tree.entries.items (ending_of c.in_ok-tree.tree.is_broken)
    c.in_ok-tree.ensures.found c.in_err-report_faults.ensures.error)

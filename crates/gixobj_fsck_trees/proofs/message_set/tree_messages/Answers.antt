use Rattle.std.proofs.Common.{◌<◌, ◌≤◌, arith, length}
use Rattle.std.proofs.lemmas.Grind.{common_steps}
use Rattle.gixobj_fsck_trees.proofs.TreeReads.{begins_of_reads, on_err}
use Rattle.gixobj_fsck_trees.specs.RawEntries.{ending_of}
use Rattle.gixobj_fsck_trees.proofs.message_set.tree_messages.Goals as goal

pub returns-in_err-twice-clause-error : goal.returns-in_err-twice-clause-error
returns-in_err-twice-clause-error c =
    let twice : 0 < length c.compared_entries.result.now = c.in_err-twice.ensures.error in
    let fewer : length c.compared_entries.result.now ≤ length c.deref.result.now = c.compared_entries.ensures.within in
    let some : 0 < length c.in_ok-tree.tree.entries.items = grind (arith, common_steps) in
    on_err c.from_residual-in_err-twice.result _
    (begins_of_reads c.args.hash_kind c.args.bytes.now c.in_ok-tree.tree.entries.items (ending_of c.in_ok-tree.tree.is_broken)
    c.in_ok-tree.ensures.found some)

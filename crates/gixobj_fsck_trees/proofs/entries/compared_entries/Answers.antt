use Rattle.std.proofs.Common.{◌≡◌, ◌-◌, length, rules}
use Rattle.gixobj_fsck_trees.proofs.TreeLoops.{views_without_last}
use Rattle.gixobj_fsck_trees.proofs.entries.compared_entries.Goals as goal

pub returns-then-is_broken-clause-value : goal.returns-then-is_broken-clause-value
returns-then-is_broken-clause-value c =
    let len : c.saturating_sub.result ≡ length c.args.entries.now - 1 = search rules in
    rw c.if-is_broken.true (views_without_last c.args.entries.now c.saturating_sub.result len)

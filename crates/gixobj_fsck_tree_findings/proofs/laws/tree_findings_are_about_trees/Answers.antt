use Rattle.gixobj_fsck_tree_findings.proofs.TreeSets.{findings_about_trees}
use Rattle.gixobj_fsck_tree_findings.proofs.laws.tree_findings_are_about_trees.Goals as goal

pub returns : goal.returns
returns c = findings_about_trees c.args.hash_kind c.args.options.now c.args.bytes.now

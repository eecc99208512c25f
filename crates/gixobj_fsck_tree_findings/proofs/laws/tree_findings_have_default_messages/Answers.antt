use Rattle.gixobj_fsck_tree_findings.proofs.TreeSets.{findings_have_default_messages}
use Rattle.gixobj_fsck_tree_findings.proofs.laws.tree_findings_have_default_messages.Goals as goal

pub returns : goal.returns
returns c = findings_have_default_messages c.args.hash_kind c.args.options.now c.args.bytes.now
